-- Bytes put at a place of a lent text. Assumes nothing.
use Rattle.std.specs.Prelude.{◌≡◌, List, ◌++◌, ℕ, ◌+◌, ◌≤◌, length, take, drop}

-- the text has a place for each of the bytes
pub record Room (text : List ℕ) (at : ℕ) (bytes : List ℕ) : Type 0 where
  pub fits : at + length bytes ≤ length text

-- the bytes stand at the place now, all other bytes of the text stay, and the end is the place behind them
pub record Put (before : List ℕ) (at : ℕ) (bytes after : List ℕ) (end : ℕ) : Type 0 where
  pub room : Room before at bytes
  pub text : after ≡ take at before ++ (bytes ++ drop (at + length bytes) before)
  pub ends : end ≡ at + length bytes
