-- Of a full gold replica no raised flag is made: it is lowered only where another live gold one is
-- seen.
use Rattle.std.proofs.Common.{ℕ, ◌≡◌, ◌≢◌, ◌<◌, not, Bool, true, false, cond, List, [], ◌∷◌, ◌++◌, Option, Some, Result, refl, sym, ap, subst, ◌∙◌, inl, inr, ◌⊎◌}
use Rattle.std.specs.Prelude.{Contains}
use Rattle.std.proofs.lemmas.Bool.{and_parts, false≢true}
use Rattle.std.proofs.lemmas.Option.{same_Some}
use Rattle.pg_run.specs.pg_base.declared.id.FileId.{FileId}
use Rattle.pg_run.specs.pg_base.Id.{is_same_file}
use Rattle.pg_run.specs.pg_call.declared.refusal.Refusal.TheVariants.{LastGold, Root}
use Rattle.pg_run.specs.pg_call.declared.reply.Reply.TheVariants.{Done as IsDone}
use Rattle.pg_run.specs.pg_content.Content.{Among}
use Rattle.pg_run.proofs.pg_content.Members.{all_among, any_found}
use Rattle.law_golds.specs.law_contents.Together.{HoldBoth}
use Rattle.pg_run.specs.pg_entries.declared.entry.Entry.{Entry}
use Rattle.pg_run.specs.pg_event.declared.event.Event.{Event}
use Rattle.pg_run.proofs.theory_flood.Flood.{after_itself}
use Rattle.pg_run.specs.pg_house.Returning.{is_root}
use Rattle.pg_run.specs.pg_msg.declared.message.Sent.{Sent}
use Rattle.pg_run.specs.pg_msg.declared.update.Update.{Update}
use Rattle.pg_run.specs.pg_msg.declared.update.Update.TheVariants as update
use Rattle.pg_run.specs.pg_msg.Work.{new_work}
use Rattle.pg_run.specs.pg_names.declared.attributes.Attributes.{Attributes}
use Rattle.pg_run.specs.pg_names.Names.{cell_at, own_at}
use Rattle.pg_run.specs.pg_register.declared.flag.Flag.{Flag}
use Rattle.pg_run.specs.pg_register.Flag.{is_live, is_older, is_removed}
use Rattle.pg_run.specs.pg_register.Place.{root}
use Rattle.pg_run.specs.pg_calls.Demoting.{has_clean_gold, is_clean_gold, lowered, unless_last, unless_root}
use Rattle.pg_run.proofs.pg_calls.Checked.{behind, unless_ok}
use Rattle.pg_run.proofs.pg_calls.Walked.{full_held}
use Rattle.pg_run.specs.pg_checks.Answer.{answer, answered}
use Rattle.pg_run.specs.pg_checks.Checks.{target_at}
use Rattle.pg_run.specs.pg_lookup.declared.paths.LookupError.{LookupError}
use Rattle.pg_run.specs.pg_lookup.Walk.{and_then}
use Rattle.pg_run.specs.pg_pieces.Done.{Done, idle}
use Rattle.pg_run.specs.pg_pieces.Golds.{flags_of, is_gold}
use Rattle.pg_run.specs.pg_pieces.Making.{lower_flag}
use Rattle.pg_run.specs.pg_server.declared.input.Input.{Input}
use Rattle.pg_run.specs.pg_server.declared.input.Input.TheVariants as input
use Rattle.pg_run.specs.pg_server.Local.{done_of, effect, first_effect}
use Rattle.pg_run.specs.pg_store.declared.store.Store.{Store}
use Rattle.pg_run.specs.pg_store.Links.{is_clean}
use Rattle.pg_run.specs.pg_store.Seen.{removed_of}
use Rattle.pg_run.specs.pg_store.Store.{is_full, replica_at}
use Rattle.pg_run.specs.pg_store.Together.{AreTogether, birth_at}
use Rattle.pg_run.proofs.pg_store.Over.{over_stays}
use Rattle.pg_run.specs.theory_flood_pieces.UpTo.{IsFlagKnownBy}
use Rattle.pg_run.specs.theory_flood_pieces.Whole.{IsWhole}
use Rattle.law_golds.specs.law_births.Flags.{SaysNames}
use Rattle.law_golds.proofs.law_births.Has.{born_of}
use Rattle.law_golds.proofs.law_births.Here.{birth_of_held}
use Rattle.law_leaving.proofs.Moments.{acts_so}
use Rattle.law_golds.specs.Premises.{FirstEffectsAreWhole, NextIdsAreAway}
use Rattle.law_golds.proofs.Effects.{SaysPacket, first_fine}
use Rattle.law_golds.proofs.Fine.{IsFine, Knows}
use Rattle.law_golds.proofs.Kept.{GoesOn, grows_on}
use Rattle.law_golds.proofs.Known.{store_less}
use Rattle.law_golds.proofs.Own.{IsOwn, Stands as IsUpTo}
use Rattle.law_golds.proofs.Says.{SaysSent}
use Rattle.law_golds.proofs.Worlds.{AreOwn, own_run}
use Rattle.law_quiet.specs.Given.{ServersAreWhole}
use Rattle.pg_run.specs.Births.{BirthsMoveInEvents, ReplicasStayOrGo}
use Rattle.pg_run.specs.Going.{FlagsAreMadeWhereHeld}
use Rattle.pg_run.specs.Grown.{EventsGrow}
use Rattle.pg_run.specs.Journal.{mail}
use Rattle.pg_run.specs.Known.{IsFlagOf}
use Rattle.pg_run.specs.Laws.{HouseIsInOrder, TakesIn}
use Rattle.pg_run.specs.Run.{Taking, World, run}
use Rattle.pg_run.specs.Views.{ViewsArePrefixes}
use Rattle.pg_run.proofs.Event.{Comes}
use Rattle.pg_run.proofs.Frame.{Acts, HasCome, acts_is}
use Rattle.pg_run.proofs.Lists.{contained_among}
use Rattle.law_repair.specs.Facts.{GoldsRaiseNone}
use Rattle.law_repair.proofs.GoldsThere.{OwnFlag, flag_at, held_not_over, own_flag}
use Rattle.law_repair.proofs.FlagHad.{grown_by}
use Rattle.law_repair.proofs.Made.{IsDemoted, first_made}
use Rattle.law_repair.proofs.Unflagged.{NoneOf}
use Rattle.law_repair.proofs.Settling.{Stands, UpTo, flag_is, settled_stands}
use Rattle.law_repair.proofs.Starts.{born_held}
use Rattle.law_repair.proofs.EventEnds.{end_made, end_removed, older_is, older_less}
use Rattle.law_repair.proofs.Demoted.{demoted_stands}

-- ---- in an event

module _ (n : ℕ) (both : HoldBoth n) (grow : EventsGrow n) (moves : BirthsMoveInEvents n) (first_whole : FirstEffectsAreWhole n) (away : NextIdsAreAway n)
    (whole : ServersAreWhole n) (views : ViewsArePrefixes n) (stay : ReplicasStayOrGo n) (made_where : FlagsAreMadeWhereHeld n) (order : HouseIsInOrder n) where
  module _ (events : List Event) (event : Event) (s : ℕ) (asked : Input) (takes : TakesIn n (run n events) event s asked) (file : FileId) (flag : Flag)
      (all : is_full ((run n events).stores s) file ≡ true) (gold : is_gold ((run n events).stores s) file ≡ true)
      (made : Contains (effect ((run n events).stores s) asked).out.made (update.Flag file flag)) where
    abbrev W : World
    W = run n events

    abbrev A : Store
    A = W.stores s

    abbrev T : Taking
    T = record { server = s; asked = asked }

    abbrev First : Done
    First = first_effect A asked

    abbrev E : Store
    E = (effect A asked).store

    acts : Acts n W T
    acts = acts_is n W event T takes

    whole_a : IsWhole n s A
    whole_a = whole events s acts.least acts.most

    whole_first : IsWhole n s First.store
    whole_first = first_whole events event T takes

    at_end : (run n (events ++ event ∷ [])).stores s ≡ E
    at_end = ap (λ (v : World). v.stores s) (acts_so n events event T takes) ∙ after_itself W.stores s E

    whole_e : IsWhole n s E
    whole_e = subst (IsWhole n s) at_end (whole (events ++ event ∷ []) s acts.least acts.most)

    live : is_removed (removed_of First.store) s ≡ false
    live =
        ap (λ (rs : List ℕ). is_removed rs s) (sym (end_removed A asked)) ∙ ap (λ (b : Store). is_removed (removed_of b) s) (sym at_end)
        ∙ (views (events ++ event ∷ []) s acts.least acts.most).own

    together : AreTogether A
    together = (both events s acts.least acts.most).together

    birth : (b : ℕ) × (birth_at A file ≡ Some b)
    birth = birth_of_held A together file (full_held A.names file all)

    born_e : birth_at E file ≡ Some birth.0
    born_e = elim ((stay events event s asked takes).1 file birth.0 birth.1) [
      | inl born ↦ born
      | inr gone ↦ absurd (false≢true (sym gone.0 ∙ born_held n s E file flag.birth whole_e (made_where events event s asked takes file flag made).1))
    ]

    born_first : birth_at First.store file ≡ Some birth.0
    born_first = elim ((stay events event s asked takes).0 file birth.0 birth.1) [
      | inl born ↦ born
      | inr gone ↦ absurd (held_not_over E file birth.0 born_e (over_stays First.store E file birth.0 (moves events event s asked takes).1 gone.1))
    ]

    -- ---- what is known before

    abbrev mine : OwnFlag A file s birth.0
    mine = own_flag n s A file birth.0 whole_a birth.1 gold

    abbrev X : Flag
    X = mine.flag

    owns : AreOwn n W
    owns = own_run n both grow moves first_whole away events

    abbrev Q : FileId → Flag → Type 0
    Q = IsFlagOf n W

    before : (f : FileId) (h : Flag) → Q f h → h.server ≡ s → IsUpTo s A f h
    before f h there same = (let P : ℕ → Type 0 = λ j. IsUpTo j (W.stores j) f h in subst P same (owns.each f h there))

    same_own : (h : Flag) → IsOwn s A file h → (is_older h X ≡ true) ⊎ (h ≡ X)
    same_own h k =
        let own : k.own ≡ X = same_Some k.own X (sym k.there ∙ mine.there) in
        elim k.upto [
          | inl same ↦ inr (same ∙ own)
          | inr up ↦ inl (older_is h.birth h.number X.birth X.number (up.0 ∙ ap (λ (f : Flag). f.birth) own) (subst (λ (f : Flag). h.number < f.number) own up.1))
        ]

    below : (h : Flag) → Q file h → h.server ≡ s → (is_older h X ≡ true) ⊎ (h ≡ X)
    below h there at = elim (before file h there at) [
      | inl k ↦ same_own h k
      | inr past ↦ (
          let x = born_of (replica_at A file) birth.0 birth.1 in
          inl (older_less h.birth h.number X.birth X.number (subst (λ (m : ℕ). h.birth < m) (sym mine.birth_is) (past.less birth.0 (inl (x.0, x.1, x.2))))))
    ]

    came_by : (y : Input) → HasCome W s y → Comes (SaysPacket Q) y
    came_by (input.Call moment c) came = tt
    came_by (input.Tick moment word) came = tt
    came_by (input.Arrival packet) came =
        let m : Sent = record { to = s; packet = packet } in
        all_among (SaysSent Q) (mail W.journal) m owns.mail_is (contained_among (mail W.journal) m came)
    came_by input.Restart came = tt

    came : Comes (SaysPacket Q) asked
    came = came_by asked acts.came

    on : GoesOn A First.store
    on = grows_on A First.store (moves events event s asked takes).0 together (both events s acts.least acts.most).births (grow events event s asked takes).0

    fine : IsFine Q s First
    fine = first_fine n s A asked Q (owns.stores s) before owns.one together (away events s acts.least acts.most) came on

    abbrev Goal : Type 0
    Goal = flag.raised ≡ false

    -- where it holds in the midst
    ends_by : (z : Flag) (raised : z.raised ≡ true) → Stands n s file z raised First.store First.work → Goal
    ends_by z raised k =
        let P : List Update → Type 0 = λ us. (g : Flag) → Among (update.Flag file g) us → g.raised ≡ false in
        end_made P A asked k.none (settled_stands n s file z raised First.store First.work k).none flag
        (contained_among (effect A asked).out.made (update.Flag file flag) made)

    -- ---- no flag of it is made at first

    module _ (none : NoneOf file First.work.made) where
      known_up : (f : FileId) (h : Flag) → Knows Q s First.work.made f h → UpTo file X f h
      known_up f h (inl was) same at = below h (subst (λ (q : FileId). Q q h) same was) (at ∙ mine.server_is)
      known_up f h (inr now) same at = absurd (none h (subst (λ (q : FileId). Among (update.Flag q h) First.work.made) same now))

      says : SaysNames (UpTo file X) s First.store.names
      says = (store_less (Knows Q s First.work.made) (UpTo file X) known_up s First.store fine.store).names

      there : flag_at First.store file X.server ≡ Some X
      there = elim ((grow events event s asked takes).0 file birth.0 birth.1) [
        | inl grown ↦ (
            let y = grown_by X (flag_at First.store file s)
            (subst (λ (o : Option Flag). IsFlagKnownBy o (flag_at First.store file s)) mine.there (grown.1.flags s)) in
            let is : flag_at First.store file X.server ≡ Some y.0 = ap (flag_at First.store file) mine.server_is ∙ y.1 in
            is ∙ ap Some (flag_is n s file X mine.raised First.store says y.0 is y.2))
        | inr over ↦ absurd (held_not_over First.store file birth.0 born_first over)
      ]

      stands_kept : Stands n s file X mine.raised First.store First.work
      stands_kept = record {
        whole = whole_first;
        says = says;
        there = there;
        live = ap (is_removed (removed_of First.store)) mine.server_is ∙ live;
        none = λ g now. absurd (none g now);
      }

    -- ---- it is demoted

    flags_passed : is_same_file file root ≡ false → (own : Attributes) → own_at A.names file ≡ Some own → (dir : FileId) (e : Entry)
        → cell_at A.names dir file ≡ Some e → e.flags ≡ own.flags
    flags_passed apart own at dir e there =
        let passed = (order events s acts.least acts.most).passing file own at apart in
        ap (λ (c : Entry). c.flags) (passed.cells dir e there) ∙ sym passed.flags

    demoted : IsDemoted s A file all gold Q (owns.stores s) asked → Goal
    demoted d =
        let w = new_work d.moment 0 in
        let one = behind (and_then (target_at A d.target) unless_root) (unless_last A) file d.found in
        let last = unless_ok (not (has_clean_gold A one.0)) LastGold one.0 file one.2 in
        let two = behind (target_at A d.target) unless_root one.0 one.1 in
        let inner = unless_ok (is_root two.0) Root two.0 one.0 two.2 in
        let apart : is_same_file file root ≡ false = ap (λ (f : FileId). is_root f) (sym (inner.1 ∙ last.1)) ∙ inner.0 in
        let seen : has_clean_gold A file ≡ true = ap (has_clean_gold A) (sym last.1) ∙ not_not (has_clean_gold A one.0) last.0 in
        let g = any_found (is_clean_gold A file) (flags_of A file) seen in
        let parts = and_parts (is_live (removed_of A) g.0) (is_clean A file g.0.server g.0.birth) g.2 in
        let x = born_of (replica_at A file) birth.0 birth.1 in
        let D : Done = lower_flag A file w in
        let is : First ≡ D =
        ap (first_effect A) d.is
        ∙ ap (λ (r : Result FileId LookupError). done_of (answered A w r (λ f. answer (lowered A f w) IsDone))) d.found
        ∙ ap (λ t. cond t D (idle A w)) gold in
        let after : IsWhole n s D.store = subst (λ (e : Done). IsWhole n s e.store) is whole_first in
        let k = demoted_stands n s A file whole_a x.0 x.1 (flags_passed apart) g.0 g.1 parts.0 parts.1 w refl after in
        let up : g.0.raised ≡ true = (and_parts g.0.raised (not (is_removed (removed_of A) g.0.server)) parts.0).0 in
        ends_by g.0 up (subst (λ (e : Done). Stands n s file g.0 up e.store e.work) (sym is) k)
      where
        not_not : (t : Bool) → not t ≡ false → t ≡ true
        not_not true h = refl
        not_not false h = absurd (false≢true (sym h))

    raised_not : Goal
    raised_not = elim (first_made s A file all gold Q (owns.stores s) asked (away events s acts.least acts.most) came) [
      | inl none ↦ ends_by X mine.raised (stands_kept none)
      | inr d ↦ demoted d
    ]

  -- WHAT IS GOLD RAISES NO FLAG
  pub golds_raise_none : GoldsRaiseNone n
  golds_raise_none events event s asked takes file flag all gold made = raised_not events event s asked takes file flag all gold made
