-- The lemmas that the function's proof shares.
pub mod Laws
