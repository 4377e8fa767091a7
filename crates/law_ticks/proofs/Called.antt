-- What each piece of an event keeps, every call keeps.
use Rattle.std.proofs.Common.{true, refl}
use Rattle.law_frame.specs.pg_run.pg_base.declared.policy.Policy.TheVariants.{Last}
use Rattle.law_frame.specs.pg_run.pg_call.declared.call.Call.{Call}
use Rattle.law_frame.specs.pg_run.pg_calls.Calls.{do_call}
use Rattle.law_frame.specs.pg_run.pg_calls.Dropping.{leave_of}
use Rattle.law_frame.specs.pg_run.pg_calls.Forgetting.{bare_entry, dead_at, unfilled, unwished}
use Rattle.law_frame.specs.pg_run.pg_calls.Making.{drawn}
use Rattle.law_frame.specs.pg_run.pg_calls.Naming.{next_id, with_id}
use Rattle.law_frame.specs.pg_run.pg_checks.Asking.{fresh_wish, holder}
use Rattle.law_frame.specs.pg_run.pg_msg.declared.work.Work.{Work}
use Rattle.law_frame.specs.pg_run.pg_names.Names.{blank_own}
use Rattle.law_frame.specs.pg_run.pg_pieces.Done.{Done}
use Rattle.law_frame.specs.pg_run.pg_pieces.Intending.{begin_intent}
use Rattle.law_frame.specs.pg_run.pg_pieces.Making.{own_next}
use Rattle.law_frame.specs.pg_run.pg_store.declared.store.Store.{Store}
use Rattle.law_frame.specs.pg_run.pg_store.Births.{draw_birth, with_birth, with_wish}
use Rattle.law_frame.proofs.pg_run.theory_flood_pieces.Views.{enter_by}
use Rattle.law_frame.proofs.Called.{call_keeps}
use Rattle.law_frame.proofs.KeepsCalls.{KeepsCalls}
use Rattle.law_ticks.proofs.Pieces.{OutlivesPieces}

module _ (P : Store → Type 0) (k : OutlivesPieces P) where
  abbrev Left : Done → Type 0
  Left done = P done.store

  keeps_left : (a : Store) (w : Work) (c : Call) → KeepsCalls a w c Left Left
  keeps_left a w c = record {
    wishes = λ found some h.
        k.beside a (with_wish (with_birth a) found.file (fresh_wish a (holder a found))) refl refl h;
    asks = λ file wish is some h. h;
    makes_new = λ kind policy path new is h. (
        let b = with_birth (with_id a) in
        let id = next_id a kind in
        k.begin b id (draw_birth (with_id a)) policy (blank_own id) true (k.beside a b refl refl h));
    makes_place = λ d file place is h. k.place d.store file place h;
    makes_flag = λ d file raised is h. k.flag d.store file (own_next d.store file raised) h;
    makes_version = λ d file ranges is h. k.write d.store file (drawn d.store d.work.now) ranges h;
    begins_leave = λ file flag is h. k.beside a (begin_intent a (leave_of file flag) w).store refl refl h;
    fills = λ d id is h. k.fill d.store id h;
    strikes = λ id dir is h. k.beside a (unwished a id) refl refl h;
    marks = λ d id dir to is h. k.entry d.store to (bare_entry id (dead_at a w.now id dir)) h;
    begins_lost = λ id own is away h. (
        let b = unfilled (with_birth a) id in
        k.begin b id (draw_birth a) Last own true (k.beside a b refl refl h));
    enters = λ view server is found h. enter_by P k.removed k.unlink k.beside a server h;
    leaves = λ d h. h;
  }

  pub called : (a : Store) (c : Call) (work : Work) → P a → P (do_call a c work).store
  called a c work h = call_keeps a work Left Left c (keeps_left a work c) h
