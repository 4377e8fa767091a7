use Rattle.pg_words.proofs.Stamps.{stamp_cut, stamp_uncut}
use Rattle.pg_words.proofs.stamp_word.read_stamp.Goals as goal

pub returns-in_err-first-clause-none : goal.returns-in_err-first-clause-none
returns-in_err-first-clause-none c =
    rw c.from_residual.ensures (λ s fits e. stamp_uncut c.args.word.now s c.in_err-first.ensures.none e)

pub returns-in_err-time-clause-none : goal.returns-in_err-time-clause-none
returns-in_err-time-clause-none c =
    rw c.from_residual-in_err-time.ensures (λ s fits e. c.in_err-time.ensures.none s.time fits.time
    (stamp_cut c.args.word.now c.in_ok-first.first.now c.in_ok-first.second.now s fits c.in_ok-first.ensures.first c.in_ok-first.ensures.whole e).0)

pub returns-in_err-server-clause-none : goal.returns-in_err-server-clause-none
returns-in_err-server-clause-none c =
    rw c.from_residual-in_err-server.ensures (λ s fits e. c.in_err-server.ensures.none s.server fits.server
    (stamp_cut c.args.word.now c.in_ok-first.first.now c.in_ok-first.second.now s fits c.in_ok-first.ensures.first c.in_ok-first.ensures.whole e).1)
