-- Reading undoes writing, and writing reading; a block is made of one session nonce and one validation key. Assumes nothing.
use mathlib.Core.Path.{◌≡◌, ◌∙◌, refl, sym, ap, ap₂}
use mathlib.Core.Bool.{Bool, true, false, not}
use mathlib.Core.List.{List, [], ◌∷◌, ◌++◌}
use Prim.Native.Nat.{ℕ}
use native.Mathlib.Omega.{arith}
use lib.Dec.{eqb}
use lib.ListN.{length, get_or, take, drop}
use borrow.Author.Rules.{rules}
use borrow.Author.Tests.{eqb-true, not-false}
use Rattle.wire.specs.Numbers.{num, le}
use Rattle.wire.specs.Rules.{◌when◌, first_broken}
use Rattle.std.specs.Prelude.{Option, is_some, Result, Ok, Err}
use Rattle.wire.specs.Refusals.{refusing}
use Rattle.wire.specs.declared.refusals.Refusal.{Refusal}
use Rattle.wire.proofs.Given.{never, good_exactly}
use Rattle.wire.proofs.Held.{Held, held}
use Rattle.wire.proofs.Numbers.{le_num}
use Rattle.wire.proofs.Rules.{none_append}
use Rattle.wire.proofs.Writers.{wrote_held}
use Rattle.aes.specs.Cipher.{from, cipher}
use Rattle.aes.specs.Inverse.{SixteenBytes}
use Rattle.aes.proofs.Bytes.{listed_bytes, append_bytes}
use Rattle.aes.proofs.Filled.{places}
use Rattle.aes.proofs.Inverse.{under_key, both_ways}
use Rattle.session.specs.declared.Connection.{Connection}
use Rattle.session.specs.Keys.{key_bytes}
use Rattle.session_data.specs.SessionData.{data_text, data_image, data_write_rules, WritesData, text_of, nonce_in, validation_in, data_text_rules, data_read_rules, read_by, data_read}
use Rattle.session_data.specs.RoundTrip.{Sized, connected, ReadsBack}
use Rattle.session_data.proofs.Judging.{text_is, length_image, by_accepted, key_read}

-- ---- the text of a session nonce and a validation key
module _ (nonce validation : List ℕ) (z : Sized nonce validation) where
  fields : data_text nonce validation
      ≡ le 4 0xCAFEBABE ++ (5 ∷ (from (λ i. get_or nonce i 0) 0 5 ++ (from (λ i. get_or validation i 0) 0 4 ++ (0 ∷ 0 ∷ []))))
  fields = text_is nonce validation z.five z.four

  text_sixteen : SixteenBytes (data_text nonce validation)
  unfolding data_text from
  text_sixteen =
      record {
        sixteen = ap length fields;
        bytes = append_bytes (le 4 0xCAFEBABE ++ (5 ∷ [])) (nonce ++ (validation ++ (0 ∷ 0 ∷ []))) (listed_bytes (le 4 0xCAFEBABE ++ (5 ∷ [])) 0 tt)
            (append_bytes nonce (validation ++ (0 ∷ 0 ∷ [])) z.nonce_is_bytes (append_bytes validation (0 ∷ 0 ∷ []) z.validation_bytes (listed_bytes (0 ∷ 0 ∷ []) 0 tt)));
      }

  text_rules : first_broken (data_text_rules (data_text nonce validation)) ≡ 0
  unfolding data_text_rules from
  text_rules = ap (λ (t : List ℕ). first_broken (data_text_rules t)) fields

  nonce_back : nonce_in (data_text nonce validation) ≡ nonce
  unfolding from
  nonce_back = ap nonce_in fields ∙ sym (places 5 nonce z.five)

  validation_back : validation_in (data_text nonce validation) ≡ validation
  unfolding from
  validation_back = ap validation_in fields ∙ sym (places 4 validation z.four)

-- ---- a text that is read
-- 16 bytes, cut where the fields begin
cut : (t : List ℕ) → length t ≡ 16 → t ≡ take 4 t ++ (get_or t 4 0 ∷ (nonce_in t ++ (validation_in t ++ take 2 (drop 14 t))))
unfolding from
cut t e = places 16 t e ∙ sym (ap (λ (t : List ℕ). take 4 t ++ (get_or t 4 0 ∷ (nonce_in t ++ (validation_in t ++ take 2 (drop 14 t))))) (places 16 t e))

-- one that breaks no rule is that of its own fields, whatever the order of the rules
text_made : (t : List ℕ) → SixteenBytes t → Held (data_text_rules t) → data_text (nonce_in t) (validation_in t) ≡ t
unfolding data_text_rules data_text
text_made t h r =
    let n : not (eqb (num 4 0 t) 0xCAFEBABE) ≡ false = search rules in
    let z : not (eqb (num 2 14 t) 0) ≡ false = search rules in
    let p : not (eqb (get_or t 4 0) 5) ≡ false = search rules in
    let a : le 4 0xCAFEBABE ≡ take 4 t = sym (ap (le 4) (eqb-true (num 4 0 t) 0xCAFEBABE (not-false _ n))) ∙ le_num t h.bytes 4 0 (omega (arith, h.sixteen)) in
    let b : 0 ∷ 0 ∷ [] ≡ take 2 (drop 14 t) = sym (ap (le 2) (eqb-true (num 2 14 t) 0 (not-false _ z))) ∙ le_num t h.bytes 2 14 (omega (arith, h.sixteen)) in
    (λ i. a i ++ (sym (eqb-true (get_or t 4 0) 5 (not-false _ p)) i ∷ (nonce_in t ++ (validation_in t ++ b i)))) ∙ sym (cut t h.sixteen)

-- ---- numbers
-- the writer never gives 17
pub write_never : (key : Option (List ℕ)) (image room : List ℕ) → first_broken (data_write_rules key image room) ≡ 17 → ⊥
write_never key image room = never (data_write_rules key image room) 16 refl

accepts : Result (Unit {0}) Refusal → Bool
accepts (Ok u) = true
accepts (Err r) = false

-- ---- the block
module _ (key : Option (List ℕ)) (hk : SixteenBytes (key_bytes key)) where
  text_back : (nonce validation : List ℕ) → Sized nonce validation → text_of key (data_image (key_bytes key) nonce validation) ≡ data_text nonce validation
  unfolding data_image
  text_back nonce validation z = (both_ways (key_bytes key) hk).deciphered (data_text nonce validation) (text_sixteen nonce validation z)

  reads : (nonce validation : List ℕ) → Sized nonce validation → is_some key ≡ true → (old : Connection)
      → data_read key old (data_image (key_bytes key) nonce validation) ≡ connected old nonce validation
  reads nonce validation z e old =
      sym (key_read key old (data_image (key_bytes key) nonce validation) (length_image (key_bytes key) nonce validation) e)
      ∙ ap (λ (t : List ℕ). read_by (data_text_rules t) old t) (text_back nonce validation z)
      ∙ sym (by_accepted (data_text_rules (data_text nonce validation)) old (data_text nonce validation) (sym (text_rules nonce validation z)))
      ∙ ap₂ (connected old) (nonce_back nonce validation z) (validation_back nonce validation z)

  wrote : (nonce validation : List ℕ) → Sized nonce validation → (room after : List ℕ) (answer : Result ℕ Refusal) (n : ℕ)
      → WritesData key nonce validation room answer after → answer ≡ Ok n → (old : Connection) → data_read key old (take n after) ≡ connected old nonce validation
  wrote nonce validation z room after answer n w e old =
      let d = wrote_held n w e in
      let h = held (data_write_rules key (data_image (key_bytes key) nonce validation) room) (tt, (tt, tt)) d.0 in
      ap (data_read key old) d.1 ∙ reads nonce validation z (not-false (is_some key) h.1.0) old

  apart : (nonce validation nonce' validation' : List ℕ) → Sized nonce validation → Sized nonce' validation'
      → data_image (key_bytes key) nonce validation ≡ data_image (key_bytes key) nonce' validation' → (nonce ≡ nonce') × (validation ≡ validation')
  apart nonce validation nonce' validation' z z' e =
      let t : data_text nonce validation ≡ data_text nonce' validation' =
      sym (text_back nonce validation z) ∙ ap (text_of key) e ∙ text_back nonce' validation' z' in (
        sym (nonce_back nonce validation z) ∙ ap nonce_in t ∙ nonce_back nonce' validation' z',
        sym (validation_back nonce validation z) ∙ ap validation_in t ∙ validation_back nonce' validation' z',
      )

  writes : (old : Connection) (block : List ℕ) → SixteenBytes block → (data_read key old block).answer ≡ Ok tt
      → data_image (key_bytes key) (nonce_in (text_of key block)) (validation_in (text_of key block)) ≡ block
  unfolding data_image data_read data_read_rules data_text_rules accepts
  writes old block h e =
      let t : List ℕ = text_of key block in
      let n : first_broken (data_read_rules key block) ≡ 0 = (good_exactly accepts refusing (data_read_rules key block) (Ok tt) (λ n. refl) refl).only (ap accepts e) in
      let r : first_broken (data_text_rules t) ≡ 0 = (none_append ((7 when not (eqb (length block) 16)) ∷ (10 when not (is_some key)) ∷ []) (data_text_rules t) n).1 in
      ap (cipher (key_bytes key)) (text_made t ((under_key (key_bytes key) hk.bytes).back.keeps block h) (held (data_text_rules t) (tt, (tt, (tt, tt))) r)) ∙ (both_ways (key_bytes key) hk).enciphered block h

  pub reads_back : ReadsBack key
  reads_back = record { reads = reads; wrote = wrote; apart = apart; writes = writes }
