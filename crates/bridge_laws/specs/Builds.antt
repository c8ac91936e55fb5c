-- Document 02 §9: "both builds tell their callers the same". What an opener or a sealer promises leaves it no choice: two functions that keep the promise, given
-- the same, answer the same and leave the same bytes. The statement, `ToldTheSame`; proofs/Builds.antt proves it.
use Rattle.std.specs.Prelude.{ℕ, ◌≡◌, Bool, List, Option, Result}
use Rattle.wire.specs.declared.refusals.Refusal.{Refusal}
use Rattle.envelope.specs.Blocks.{Seals}
use Rattle.bridge.specs.Opener.{OpensFrame}
use Rattle.bridge.specs.Characteristic.{OpensPacket}
use Rattle.bridge.specs.declared.Context.{Context}
use Rattle.bridge.specs.declared.Link.{Link}
use Rattle.bridge.specs.declared.Opened.{Opened}
use Rattle.bridge.specs.declared.OpenedCommand.{OpenedCommand}

-- the answers of both, and what both leave of a lent buffer
pub record Same {A : Type 0} (a b : A) (left right : List ℕ) : Type 0 where
  pub answers : a ≡ b
  pub leaves : left ≡ right

pub record ToldTheSame : Type 0 where
  pub frames : (g : Context) (major wrapper : ℕ) (p work : List ℕ) {a b : Opened} {left right : List ℕ}
      → OpensFrame g major wrapper p work a left → OpensFrame g major wrapper p work b right → Same a b left right
  pub packets : (k : Link) (p work : List ℕ) {a b : OpenedCommand} {left right : List ℕ}
      → OpensPacket k p work a left → OpensPacket k p work b right → Same a b left right
  pub seals : (key : Option (List ℕ)) (bad : Bool) (image room : List ℕ) {a b : Result ℕ Refusal} {left right : List ℕ}
      → Seals key bad image room a left → Seals key bad image room b right → Same a b left right
