use Rattle.std.proofs.lemmas.Bool.{iff_false}
use Rattle.pg_msg.proofs.Keys.{key_cut, key_uncut, flag_none, entry_none, version_none, cell_none}
use Rattle.pg_msg.proofs.key_word.read_key.Goals as goal

pub returns-in_err-cell-clause-none : goal.returns-in_err-cell-clause-none
returns-in_err-cell-clause-none c =
    rw c.from_residual.ensures (λ k fits e. key_uncut c.args.word.now k (iff_false c.is_same.ensures c.if-is_same.false) c.in_err-cell.ensures.none e)

pub returns-in_err-server-clause-none : goal.returns-in_err-server-clause-none
returns-in_err-server-clause-none c =
    rw c.from_residual-in_err-server.ensures (λ k fits e. flag_none c.in_ok-cell.cell.now c.in_ok-cell.part.now (c.is_same-2.ensures.0 c.if-is_same-2.true) c.in_err-server.ensures.none k fits
    (key_cut c.args.word.now c.in_ok-cell.cell.now c.in_ok-cell.part.now k (iff_false c.is_same.ensures c.if-is_same.false) c.in_ok-cell.ensures.first c.in_ok-cell.ensures.whole e))

pub returns-in_err-child-clause-none : goal.returns-in_err-child-clause-none
returns-in_err-child-clause-none c =
    rw c.from_residual-in_err-child.ensures (λ k fits e. entry_none c.in_ok-cell.cell.now c.in_ok-cell.part.now (c.is_same-3.ensures.0 c.if-is_same-3.true) c.in_err-child.ensures.none k fits
    (key_cut c.args.word.now c.in_ok-cell.cell.now c.in_ok-cell.part.now k (iff_false c.is_same.ensures c.if-is_same.false) c.in_ok-cell.ensures.first c.in_ok-cell.ensures.whole e))

pub returns-in_err-stamp-clause-none : goal.returns-in_err-stamp-clause-none
returns-in_err-stamp-clause-none c =
    rw c.from_residual-in_err-stamp.ensures (λ k fits e. version_none c.in_ok-cell.cell.now c.in_ok-cell.part.now (c.is_same-4.ensures.0 c.if-is_same-4.true) c.in_err-stamp.ensures.none k fits
    (key_cut c.args.word.now c.in_ok-cell.cell.now c.in_ok-cell.part.now k (iff_false c.is_same.ensures c.if-is_same.false) c.in_ok-cell.ensures.first c.in_ok-cell.ensures.whole e))

pub returns-clause-none : goal.returns-clause-none
returns-clause-none c k fits e =
    cell_none c.in_ok-cell.cell.now c.in_ok-cell.part.now
    (iff_false c.is_same-2.ensures c.if-is_same-2.false)
    (iff_false c.is_same-3.ensures c.if-is_same-3.false)
    (iff_false c.is_same-4.ensures c.if-is_same-4.false) k
    (key_cut c.args.word.now c.in_ok-cell.cell.now c.in_ok-cell.part.now k (iff_false c.is_same.ensures c.if-is_same.false) c.in_ok-cell.ensures.first c.in_ok-cell.ensures.whole e)
