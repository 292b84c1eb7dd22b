-- The loop's invariant: the rest of the list has the first entry that is at least the limit, as far on as entries came before the rest.
use Rattle.std.proofs.Common.{◌≡◌, ◌+◌, length, leb}
use Rattle.std.specs.List.{position_or_len}
use Rattle.std.specs.Slice.Iter.{chunks_rest}
use Rattle.sheets.proofs.first.at_least_of_many.Given as goal

abbrev pub invariant-loop-piece : goal.invariant-loop-piece
invariant-loop-piece l =
    goal.iterator-loop-piece.can_next l.piece-iterator
    × goal.iterator-loop-piece.is_finite l.piece-iterator
    × (l.before + length (chunks_rest l.piece-iterator) ≡ length l.list)
    × (l.before + position_or_len (λ x. leb l.limit x) (chunks_rest l.piece-iterator) ≡ position_or_len (λ x. leb l.limit x) l.list)
