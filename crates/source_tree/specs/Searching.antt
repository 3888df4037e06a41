-- A search whose steps nobody asks for. No contract outside the crate cites this file.
use Rattle.std.specs.Prelude.{◌≡◌, ℕ}

-- a blank of this name and so many parts is one for a ledger of that name and so many parts, and
-- has a single part
pub record IsBlankFor (name parts ledger_name ledger_parts : ℕ) : Type 0 where
  pub name_is : name ≡ ledger_name
  pub parts_are : parts ≡ ledger_parts
  pub single : parts ≡ 1
