-- What an answer gives, in document 01's numbers and bytes.
use Rattle.std.specs.Prelude.{ℕ, List}

-- accepted with something, or refused with something
pub data Judged (A R : Type 0) : Type 0 where
  accepted : A → Judged A R
  refused : R → Judged A R

-- what a packet or a message holds: the number of its command or its data type, the number in each field, and the bytes of each part behind the fields
pub record Content : Type 0 where
  pub number : ℕ
  pub values : List ℕ
  pub parts : List (List ℕ)

abbrev pub content : ℕ → List ℕ → List (List ℕ) → Content
content n vs ps = record { number = n; values = vs; parts = ps }
