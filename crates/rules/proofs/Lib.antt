-- Laws about specs/, in reading order: what the code's proofs cite, and what an edit of a definition breaks.
pub mod Logic
pub mod Search
pub mod Check
pub mod Sound
pub mod Unique
pub mod Room
pub mod Judged
pub mod Applies
pub mod OneOutcome
pub mod Accepted
