-- What a server does where a client calls it.
use Rattle.pg_cells.specs.pg_msg.declared.work.Work.{Work}
use Rattle.pg_cells.specs.pg_call.declared.call.Call.{Call}
use Rattle.pg_cells.specs.pg_call.declared.call.Call.TheVariants as call
use Rattle.pg_cells.specs.pg_store.declared.store.Store.{Store}
use Rattle.pg_checks.specs.Answer.{Answer}
use Rattle.pg_calls.specs.Naming.{create, mkdir, rename, rmdir, unlink}
use Rattle.pg_calls.specs.Bodies.{cut, read, write}
use Rattle.pg_calls.specs.Demoting.{demote}
use Rattle.pg_calls.specs.Dropping.{drop}
use Rattle.pg_calls.specs.Forgetting.{forget}
use Rattle.pg_calls.specs.GivingUp.{giveup}
use Rattle.pg_calls.specs.Looks.{fresh, ls, stat, status, stop}

abbrev pub do_call : Store → Call → Work → Answer
do_call store (call.Mkdir path) work = mkdir store path work
do_call store (call.Create path policy) work = create store path policy work
do_call store (call.Write path offset bytes) work = write store path offset bytes work
do_call store (call.Cut path length) work = cut store path length work
do_call store (call.Read path offset count) work = read store path offset count work
do_call store (call.Fresh path) work = fresh store path work
do_call store (call.Ls path from) work = ls store path from work
do_call store (call.Stat target) work = stat store target work
do_call store (call.Rename from to) work = rename store from to work
do_call store (call.Unlink path) work = unlink store path work
do_call store (call.Rmdir path) work = rmdir store path work
do_call store (call.Forget id) work = forget store id work
do_call store (call.Demote target) work = demote store target work
do_call store (call.Drop target) work = drop store target work
do_call store (call.Giveup view server) work = giveup store view server work
do_call store call.Status work = status store work
do_call store call.Stop work = stop store work
