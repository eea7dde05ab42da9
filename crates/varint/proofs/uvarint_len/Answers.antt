-- `varint::uvarint_len` meets its contract, by the law of the length at 64 bits.
use mathlib.Core.Path.{sym, ◌∙◌}
use lib.Dec.{lit<}
use Rattle.varint.proofs.Length.{length_leading, most_64}
use Rattle.varint.proofs.uvarint_len.Goals as goal

pub returns : goal.returns
returns c = let l = length_leading 64 c.args.x (lit< tt) c.ranges.x.fits in most_64 _ l.0 l.1 ∙ sym l.2
