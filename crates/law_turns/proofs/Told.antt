-- In every event of every run intentions begin in turn.
use Rattle.std.proofs.Common.{ℕ, ◌≡◌, ◌++◌, true, cond, List, [], ◌∷◌, Some, eq-eqb, refl, sym, ap, subst, ◌∙◌}
use Rattle.std.specs.List.{AllByRecursion}
use Rattle.std.specs.List.Sorted.{IsStrictlySortedBy}
use Rattle.std.specs.Map.{keys_of}
use Rattle.pg_run.specs.pg_base.declared.id.FileId.{FileId}
use Rattle.pg_run.specs.pg_base.Id.{file_cmp}
use Rattle.pg_run.specs.pg_entries.declared.entry.Entry.{Entry}
use Rattle.pg_run.specs.pg_event.declared.event.Event.{Event}
use Rattle.pg_run.specs.pg_intent.declared.intent.Intent.{Intent}
use Rattle.pg_run.specs.pg_intentions.Beginning.{begin_end}
use Rattle.pg_run.specs.pg_names.Names.{cell_at}
use Rattle.pg_run.specs.pg_register.Flag.{IsByServer}
use Rattle.pg_run.specs.pg_pieces.Done.{Done}
use Rattle.pg_run.specs.pg_server.declared.input.Input.{Input}
use Rattle.pg_run.specs.pg_server.Local.{closed, effect, finished, first_effect, reply_to, settled, takes_effect}
use Rattle.pg_run.specs.pg_store.declared.store.Store.{Store}
use Rattle.pg_run.specs.Laws.{AtEach}
use Rattle.pg_run.specs.Run.{Step, Taking, World, next, run, start}
use Rattle.pg_run.specs.theory_flood_pieces.Whole.{IsWhole}
use Rattle.law_order.specs.Laws.{NamesAreById}
use Rattle.law_order.proofs.Told.{all_named, servers_whole}
use Rattle.pg_run.proofs.pg_intentions.Steady.{begin_end_stays}
use Rattle.pg_run.proofs.Frame.{acts_is, next_is, run_more}
use Rattle.law_turns.specs.Turns.{BeginsInTurn, IntentionsBeginInTurn, IsFirstTarget, IsOlder, sender_in}
use Rattle.law_turns.proofs.Aims.{IsAimed}
use Rattle.law_turns.proofs.Firsts.{from_then, older_then}
use Rattle.law_turns.proofs.Shapes.{all_to}
use Rattle.law_turns.proofs.Targets.{targets_told}
use Rattle.law_turns.proofs.Whole.{in_turn}

module _ (a : Store) (asked : Input) (going : takes_effect a asked ≡ true) where
  abbrev Rules : Done
  Rules = settled (first_effect a asked)

  abbrev End : Done
  End = begin_end Rules.store Rules.work

  effect_is : (effect a asked).store ≡ End.store
  effect_is =
      ap (λ t. (cond t (closed (reply_to a asked) (first_effect a asked)) (finished (reply_to a asked) (first_effect a asked))).store) going

  things_then : IsStrictlySortedBy file_cmp (keys_of (effect a asked).store.names.held) → IsStrictlySortedBy file_cmp (keys_of Rules.store.names.held)
  things_then sorted =
      subst (λ (ks : List FileId). IsStrictlySortedBy file_cmp ks)
      (ap (λ (b : Store). keys_of b.names.held) effect_is ∙ ap (λ n. keys_of n.held) (begin_end_stays Rules.store Rules.work).names) sorted

  -- who is asked is as it is told
  abbrev AreTold : Store → Type 0
  AreTold b = (i : Intent) → IsAimed b (sender_in asked) i → IsFirstTarget b (sender_in asked) i

  pub begins : IsStrictlySortedBy file_cmp (keys_of (effect a asked).store.names.held) → AreTold (effect a asked).store
      → BeginsInTurn a (effect a asked).store (sender_in asked)
  begins sorted told =
      let t = in_turn (IsOlder a) Rules.store Rules.work (older_then a asked) (things_then sorted) in
      let aimed : AllByRecursion (IsAimed End.store (sender_in asked)) t.0.new =
      subst (λ from. AllByRecursion (IsAimed End.store from) t.0.new) (from_then a asked) t.1 in
      subst (λ (b : Store). BeginsInTurn a b (sender_in asked)) (sym effect_is) (record {
        old = t.0.old;
        new = t.0.new;
        parts = t.0.parts;
        older = t.0.stood;
        order = t.0.order;
        targets = all_to (IsAimed End.store (sender_in asked)) (IsFirstTarget End.store (sender_in asked)) (subst AreTold effect_is told) t.0.new aimed;
      })

-- the flags of each entry are by server
abbrev pub ByServer : Store → Type 0
ByServer b = (dir child : FileId) (e : Entry) → cell_at b.names dir child ≡ Some e → IsByServer e.flags

pub flags_by_server : (n : ℕ) (events : List Event) → AtEach n (λ s. ByServer ((run n events).stores s))
flags_by_server n events s least most dir child e at =
    (((all_named n events).names s least most).cells dir child e at).order

pub intentions_begin_in_turn : (n : ℕ) → NamesAreById n → IntentionsBeginInTurn n
intentions_begin_in_turn n by_id events event s asked takes going =
    let w = run n events in
    let t : Taking = record { server = s; asked = asked } in
    let acts = acts_is n w event t takes in
    let is : (next n w event).stores s ≡ (effect (w.stores s) asked).store =
    ap (λ (z : Step). z.stores s) (next_is n w event t takes)
    ∙ ap (λ u. cond u (effect (w.stores s) asked).store (w.stores s)) (eq-eqb s s refl) in
    let later : (run n (events ++ event ∷ [])).stores s ≡ (effect (w.stores s) asked).store =
    ap (λ (x : World). x.stores s) (run_more n (start n) events event) ∙ is in
    let after = events ++ event ∷ [] in
    let A = w.stores s in
    let B = (effect A asked).store in
    let sorted = subst (λ (b : Store). IsStrictlySortedBy file_cmp (keys_of b.names.held)) later
    (by_id after s acts.least acts.most).things in
    let there = subst (IsWhole n s) later (servers_whole n after s acts.least acts.most) in
    let cells = subst ByServer later (flags_by_server n after s acts.least acts.most) in
    subst (λ (b : Store). BeginsInTurn A b (sender_in asked)) (sym is)
    (begins A asked going sorted (targets_told B n s there cells (sender_in asked)))
