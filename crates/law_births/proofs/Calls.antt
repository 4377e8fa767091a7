-- What a call does to births and edges.
use Rattle.std.proofs.Common.{ℕ, ◌≡◌, true, false, List, None, Some, Ok, inl, refl, sym, ap, ◌∙◌}
use Rattle.std.proofs.lemmas.Bool.{false≢true}
use Rattle.pg_run.specs.pg_base.declared.id.FileId.{FileId}
use Rattle.pg_run.specs.pg_base.declared.id.Kind.{Kind}
use Rattle.pg_run.specs.pg_base.declared.policy.Policy.{Policy}
use Rattle.pg_run.specs.pg_base.declared.policy.Policy.TheVariants.{Last}
use Rattle.pg_run.proofs.pg_base.Orders.{is_same_file-true}
use Rattle.pg_run.specs.pg_call.declared.call.Call.{Call}
use Rattle.pg_run.specs.pg_call.declared.call.Call.TheVariants as call
use Rattle.pg_run.specs.pg_intent.declared.intent.Intent.{Intent}
use Rattle.pg_run.specs.pg_intent.declared.intent.Intent.TheVariants as intent
use Rattle.pg_run.specs.pg_intent.declared.key.IntentKey.TheVariants as intent_key
use Rattle.pg_run.specs.pg_intent.Intents.{has_key, intent_at}
use Rattle.pg_run.proofs.pg_intent.Found.{stands_is}
use Rattle.pg_run.specs.pg_msg.declared.work.Work.{Work}
use Rattle.pg_run.specs.pg_names.declared.attributes.Attributes.{Attributes}
use Rattle.pg_run.specs.pg_names.Names.{blank_own}
use Rattle.pg_run.specs.pg_store.declared.store.Store.{Store}
use Rattle.pg_run.specs.pg_store.Beginning.{begin}
use Rattle.pg_run.specs.pg_store.Births.{draw_birth, fill_at, with_birth, with_wish}
use Rattle.pg_run.specs.pg_store.Store.{is_full, is_held}
use Rattle.pg_run.proofs.pg_store.Aiming.{gone_as_before}
use Rattle.pg_run.specs.pg_pieces.Done.{Done}
use Rattle.pg_run.specs.pg_pieces.Making.{own_next}
use Rattle.pg_run.proofs.pg_graph.LeaveOk.{found_keyed}
use Rattle.pg_run.specs.pg_checks.Asking.{fresh_wish, holder, standing}
use Rattle.pg_run.specs.pg_calls.Calls.{do_call}
use Rattle.pg_run.specs.pg_calls.Dropping.{leave_of}
use Rattle.pg_run.specs.pg_calls.Forgetting.{bare_entry, dead_at, unfilled, unwished}
use Rattle.pg_run.specs.pg_calls.GivingUp.{removal_at}
use Rattle.pg_run.specs.pg_calls.Making.{drawn}
use Rattle.pg_run.specs.pg_calls.Naming.{next_id, with_id}
use Rattle.pg_run.specs.Intending.{FillsStand}
use Rattle.law_order.proofs.law_frame.Called.{call_keeps}
use Rattle.law_order.proofs.law_frame.KeepsCalls.{KeepsCalls}
use Rattle.law_order.proofs.Called.{gap_behind, missing_away, unfilled_at}
use Rattle.law_births.specs.Premises.{IsFree}
use Rattle.law_births.proofs.Begins.{made_goes, wish_goes}
use Rattle.law_births.proofs.Entering.{enter_moves}
use Rattle.law_births.proofs.Leaves.{begun_stays}
use Rattle.law_births.proofs.Moving.{Moves, Why, begin_edges, goes_moves, moves_itself, moves_stay, stay_moves, stays_moves, unheld}
use Rattle.law_births.proofs.Pieces.{Stays, ended_stays, entry_stays, fill_stays, flag_stays, id_stays, place_stays, write_stays}

-- a Fill is found with its key
fill_keyed : (q : FileId) (j : Intent) → has_key (intent_key.Fill q) j ≡ true → (b u : ℕ) × (j ≡ intent.Fill q b u)
fill_keyed q (intent.Fill f b u) same = (b, u, ap (λ (g : FileId). intent.Fill g b u) (sym (is_same_file-true q f same)))
fill_keyed q (intent.Bye f b p n) same = absurd (false≢true same)
fill_keyed q (intent.Seek f t) same = absurd (false≢true same)
fill_keyed q (intent.Patch d x t) same = absurd (false≢true same)
fill_keyed q (intent.Confirm d c t) same = absurd (false≢true same)
fill_keyed q (intent.Leave f p n) same = absurd (false≢true same)

pub fill_only : (is : List Intent) (q : FileId) (j : Intent) → intent_at is (intent_key.Fill q) ≡ Some j
    → (b u : ℕ) × (j ≡ intent.Fill q b u)
fill_only is q j there = fill_keyed q j (found_keyed (intent_key.Fill q) j is there)

-- where a server is removed its edges may go
abbrev pub MayEnter : Why → Store → Call → Type 0
MayEnter V a c = (view server : ℕ) (u : Unit {0}) → c ≡ call.Giveup view server → removal_at a view server ≡ Ok u → (file : FileId) (birth : ℕ) → V.edge file server birth

module _ (V : Why) (a : Store) (fills : FillsStand a) (free : (kind : Kind) → IsFree a (next_id a kind)) (work : Work) where
  abbrev On : Done → Type 0
  On d = Moves V a d.store

  -- what is asked for is not held
  wished_moves : (file : FileId) (target : ℕ) → is_full a file ≡ false → standing a file ≡ None → Moves V a (with_wish (with_birth a) file (fresh_wish a target))
  wished_moves file target missing none =
      let q = intent_key.Fill file in
      let gap = unfilled_at a file none in
      let away = missing_away a file (λ x is less. sym (stands_is a.intents q) ∙ (fills file).1 (inl (x, is, less))) missing gap in
      goes_moves (wish_goes a file (fresh_wish a target) refl away gap) (λ f. refl)

  begun_moves : (b : Store) → Stays a b → (id : FileId) → is_held b id ≡ false → fill_at b id ≡ None → (policy : Policy) (own : Attributes)
      → Moves V a (begin (with_birth b) id (draw_birth b) policy own true)
  begun_moves b stays id away gap policy own =
      let e = with_birth b in
      stay_moves stays (record {
        goes = made_goes b id policy own true away gap;
        edges = λ k. begin_edges e id (draw_birth b) policy own true (unheld b id k.together away) V;
      })

  unwished_stays : (id : FileId) → Stays a (unwished a id)
  unwished_stays id = record { before = gone_as_before a id; shapes = λ q. refl }

  keeps_moves : (c : Call) → MayEnter V a c → KeepsCalls a work c On On
  keeps_moves c may = record {
    wishes = λ found is k. wished_moves found.file (holder a found) is.missing is.none;
    asks = λ file wish is some k. k;
    makes_new = λ kind policy path is new k. (
        let id = next_id a kind in
        begun_moves (with_id a) (id_stays a) id (free kind).away (free kind).unfilled policy (blank_own id));
    makes_place = λ d file place is k. moves_stay k (place_stays d.store file place);
    makes_flag = λ d file raised is k. moves_stay k (flag_stays d.store file (own_next d.store file raised));
    makes_version = λ d file ranges is k. moves_stay k (write_stays d.store file (drawn d.store d.work.now) ranges);
    begins_leave = λ file flag is k. stays_moves (begun_stays a (leave_of file flag) work (λ q. refl));
    fills = λ d id is k. moves_stay k (fill_stays d.store id);
    strikes = λ id dir is k. stays_moves (unwished_stays id);
    marks = λ d id dir to is k. moves_stay k (entry_stays d.store to (bare_entry id (dead_at a work.now id dir)));
    begins_lost = λ id own is away k.
        begun_moves (unfilled a id) (ended_stays a (intent_key.Fill id)) id away (gap_behind a id) Last own;
    enters = λ view server is found k. enter_moves a server V (may view server tt is found);
    leaves = λ d k. k;
  }

  -- ANY CALL
  pub call_moves : (c : Call) → MayEnter V a c → Moves V a (do_call a c work).store
  call_moves c may = call_keeps a work On On c (keeps_moves c may) (moves_itself a)
