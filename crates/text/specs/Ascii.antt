-- A quoted text as bytes.
use Rattle.std.specs.Prelude.{ℕ, ◌≡◌, refl, List, [], ◌∷◌}
use Prim.Native.Char.{code}
use Prim.Native.String.{String, [] as none, ◌∷◌ as ◌then◌}

abbrev pub ascii : String → List ℕ
ascii none = []
ascii (c then s) = code c ∷ ascii s

example_ascii : ascii "end\n" ≡ 101 ∷ 110 ∷ 100 ∷ 10 ∷ []
example_ascii = refl
