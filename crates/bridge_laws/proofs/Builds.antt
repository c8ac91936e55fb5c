-- Both builds tell their callers the same: their promises are equations. Assumes nothing.
use mathlib.Core.Path.{◌∙◌, sym}
use Rattle.bridge_laws.specs.Builds.{ToldTheSame}

pub told_the_same : ToldTheSame
told_the_same =
    record {
      frames = λ g major wrapper p work x y. record { answers = x.opens ∙ sym y.opens; leaves = x.leaves ∙ sym y.leaves };
      packets = λ k p work x y. record { answers = x.opens ∙ sym y.opens; leaves = x.leaves ∙ sym y.leaves };
      seals = λ key bad image room x y. record { answers = x.answers ∙ sym y.answers; leaves = x.leaves ∙ sym y.leaves };
    }
