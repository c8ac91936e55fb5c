-- `session_data::judge_data` meets its contract. Assumes nothing.
use mathlib.Core.Path.{sym}
use borrow.Author.Tests.{eq-eqb, ne_eqb}
use Rattle.session_data.specs.SessionData.{data_text_rules}
use Rattle.session_data.proofs.judge_data.Goals as goal

pub returns-then-read_u32-ne3405691582 : goal.returns-then-read_u32-ne3405691582
unfolding data_text_rules
returns-then-read_u32-ne3405691582 c = simp (sym c.read_u32.ensures, ne_eqb _ _ c.if-read_u32-ne3405691582.true)

pub returns-then-read_u16-ne0 : goal.returns-then-read_u16-ne0
unfolding data_text_rules
returns-then-read_u16-ne0 c =
    simp (sym c.read_u32.ensures, eq-eqb _ _ c.if-read_u32-ne3405691582.false, sym c.read_u16.ensures.0, ne_eqb _ _ c.if-read_u16-ne0.true)

pub returns-then-byte_at-ne5 : goal.returns-then-byte_at-ne5
unfolding data_text_rules
returns-then-byte_at-ne5 c =
    simp (sym c.read_u32.ensures, eq-eqb _ _ c.if-read_u32-ne3405691582.false, sym c.read_u16.ensures.0, eq-eqb _ _ c.if-read_u16-ne0.false, sym c.byte_at.ensures.0, ne_eqb _ _ c.if-byte_at-ne5.true)

pub returns : goal.returns
unfolding data_text_rules
returns c =
    simp (sym c.read_u32.ensures, eq-eqb _ _ c.if-read_u32-ne3405691582.false, sym c.read_u16.ensures.0, eq-eqb _ _ c.if-read_u16-ne0.false, sym c.byte_at.ensures.0, eq-eqb _ _ c.if-byte_at-ne5.false)
