-- `refused_words` meets its contract. Assumes nothing.
use Rattle.text.specs.Ascii.{ascii}
use Rattle.listing.proofs.Lines.{words_put}
use Rattle.listing.proofs.refused_words.Goals as goal

pub returns : goal.returns
returns c = words_put (ascii "refused ") _ _ c.named-behind.ensures c.named.ensures
