-- Whatever is given, any two outcomes that meet the promise of a public function here are equal. Assumes nothing.
use mathlib.Core.Path.{ap, sym, ◌∙◌}
use denote.RattleType.{RattleType}
use denote.Param.Laws.{Laws, IsCopy}
use mir.Syntax.{Dict}
use Rattle.std.specs.declared.clone.Clone.{Ghosts}
use Rattle.outcome.specs.OneOutcome.{OneOutcome}
use Rattle.room.specs.contracts.wide
use Rattle.room.proofs.wide.Reads as wide_reads
use Rattle.room.specs.contracts.put
use Rattle.room.proofs.put.Reads as put_reads
use Rattle.room.specs.contracts.fill_from
use Rattle.room.proofs.fill_from.Reads as fill_from_reads

pub one_wide : OneOutcome wide.ended wide_reads.Post
one_wide _ _ _ _ _ _ p q = p ∙ sym q

-- of any element type
pub one_put : (T : RattleType) (L : Laws T) (C : IsCopy T) (K : Ghosts T.Denot) (D : Dict)
    → OneOutcome (put.ended T K D) (put_reads.Post T L C K D)
one_put T L C K D _ _ _ _ _ _ p q = sym p ∙ q

pub one_fill_from : (T : RattleType) (L : Laws T) (C : IsCopy T) (K : Ghosts T.Denot) (D : Dict)
    → OneOutcome (fill_from.ended T K D) (fill_from_reads.Post T L C K D)
one_fill_from T L C K D _ _ _ _ _ _ p q = ap (λ o. (tt, o)) (p ∙ sym q)
