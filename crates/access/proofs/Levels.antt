-- A level's number is the level's alone. Assumes nothing.
use mathlib.Core.Path.{◌≡◌, refl, ◌∙◌}
use Prim.Native.Nat.{ℕ}
use native.Mathlib.Omega.{arith}
use Rattle.wire.proofs.Lookup.{lookup_all, ◌also◌}
use Rattle.access.specs.Level.{level_number, levels, level_of}
use Rattle.access.specs.declared.Level.{Level}
use Rattle.access.specs.declared.Level.TheVariants.{Admin, Member, Basic, Setup}
use Rattle.std.specs.Prelude.{Option, Some, None}

pub level_back : (l : Level) → level_of (level_number l) ≡ Some l
level_back Admin = refl
level_back Member = refl
level_back Basic = refl
level_back Setup = refl

-- a level that was read has the number that it was read from
abbrev Has : ℕ → Option Level → Type 0
Has n r = (l : Level) → r ≡ Some l → n ≡ level_number l

same : (k l : Level) → Some k ≡ Some l → level_number k ≡ level_number l
same k l e = let d : k ≡ l = cc in rw d

pub level_read : (n : ℕ) (l : Level) → level_of n ≡ Some l → n ≡ level_number l
level_read n =
    lookup_all level_number Some None (Has n) levels n
    ((λ h l e. h ∙ same Admin l e)
    also (λ h l e. h ∙ same Member l e)
    also (λ h l e. h ∙ same Basic l e)
    also (λ h l e. h ∙ same Setup l e)
    also (λ l e. absurd (let z : ◌≡◌ {A = ℕ} 0 1 = cc in omega arith)))
