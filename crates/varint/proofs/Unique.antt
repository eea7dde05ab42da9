-- Whatever is given, any two outcomes that meet the promise of a public function here are equal. Assumes nothing.
use mathlib.Core.Path.{refl, sym, ◌∙◌}
use Rattle.outcome.specs.OneOutcome.{OneOutcome}
use Rattle.varint.specs.contracts.read_uvarint
use Rattle.varint.proofs.read_uvarint.Reads as read_uvarint_reads
use Rattle.varint.specs.contracts.uvarint_len
use Rattle.varint.proofs.uvarint_len.Reads as uvarint_len_reads
use Rattle.varint.specs.contracts.lent_bytes
use Rattle.varint.proofs.lent_bytes.Reads as lent_bytes_reads
use Rattle.varint.specs.contracts.put_uvarint
use Rattle.varint.proofs.put_uvarint.Reads as put_uvarint_reads
use Rattle.varint.specs.contracts.append_uvarint
use Rattle.varint.proofs.append_uvarint.Reads as append_uvarint_reads

pub one_read_uvarint : OneOutcome read_uvarint.ended read_uvarint_reads.Post
one_read_uvarint _ _ _ _ _ _ p q = p ∙ sym q

pub one_uvarint_len : OneOutcome uvarint_len.ended uvarint_len_reads.Post
one_uvarint_len _ _ _ _ _ _ p q = p ∙ sym q

pub one_put_uvarint : OneOutcome put_uvarint.ended put_uvarint_reads.Post
one_put_uvarint _ _ _ _ _ _ p q = sym p ∙ q

pub one_append_uvarint : OneOutcome append_uvarint.ended append_uvarint_reads.Post
one_append_uvarint _ _ _ _ _ _ p q = sym p ∙ q

pub one_lent_bytes : OneOutcome lent_bytes.ended lent_bytes_reads.Post
one_lent_bytes _ _ _ _ _ _ p q = refl
