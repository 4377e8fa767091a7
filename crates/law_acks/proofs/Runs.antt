-- In every world that a run reaches, edges and messages keep what they promise.
use Rattle.std.proofs.Common.{ℕ, ◌≡◌, true, List, [], ◌∷◌, ◌++◌, Some, refl, sym, ap, subst, ◌∙◌, inl, All}
use Rattle.std.specs.Prelude.{Contains}
use Rattle.std.proofs.lemmas.List.{append-nil}
use Rattle.std.proofs.lemmas.List.Elements.{All-append, All-nil}
use Rattle.pg_run.specs.theory_flood.Protocol.{KeepsEdges, Promised}
use Rattle.pg_run.specs.theory_flood.Promises.{Saying}
use Rattle.pg_run.specs.theory_flood.Server.{Slot}
use Rattle.pg_run.specs.theory_flood.World.{after}
use Rattle.pg_run.proofs.theory_flood.Flood.{after_itself}
use Rattle.pg_run.specs.theory_flood.Noting.{SaidIn}
use Rattle.pg_run.proofs.theory_flood.Late.{late, wider}
use Rattle.pg_run.proofs.theory_flood.Steps.{HasSoundTags}
use Rattle.pg_run.specs.pg_base.declared.id.FileId.{FileId}
use Rattle.pg_run.specs.pg_entries.declared.cell.Cell.{Cell}
use Rattle.pg_run.specs.pg_msg.declared.message.Sent.{Sent}
use Rattle.pg_run.specs.pg_event.declared.event.Event.{Event}
use Rattle.pg_run.specs.pg_store.declared.store.Store.{Store}
use Rattle.pg_run.specs.pg_store.Births.{is_over}
use Rattle.pg_run.specs.pg_store.Together.{BirthsMove, IsOver}
use Rattle.pg_run.proofs.pg_store.Over.{moves_then, over_stays, over_tested}
use Rattle.pg_run.specs.pg_server.declared.input.Input.{Input}
use Rattle.pg_run.specs.pg_server.declared.input.Input.TheVariants as input
use Rattle.pg_run.specs.pg_server.Local.{effect, first_effect}
use Rattle.pg_run.specs.theory_flood_pieces.Seen.{Along, cells, hears, in_the_end, says}
use Rattle.pg_run.specs.theory_flood_pieces.Whole.{IsWhole, PatchesAreForDirs}
use Rattle.pg_run.proofs.theory_flood_pieces.Counting.{by_the_rule, tags_in, tags_out}
use Rattle.pg_run.proofs.theory_flood_pieces.Start.{start_kept, start_tags, start_whole}
use Rattle.pg_run.specs.Journal.{mail}
use Rattle.pg_run.specs.Ruled.{EventsKeepTheRule, KeepsTheRule, heard_in, late_in}
use Rattle.pg_run.specs.Run.{Step, Taking, World, effect_step, run, start, taking_in, world_after}
use Rattle.pg_run.proofs.Late.{late_in_mail}
use Rattle.pg_run.proofs.Frame.{Acts, HasCome, acts_is, all_parts, each_after, holds_in_runs, next_is, no_server_comes, run_more}
use Rattle.law_acks.specs.Laws.{StandOn}
use Rattle.law_acks.proofs.Effects.{SuitsInput, effect_good, first_done}
use Rattle.law_acks.proofs.Ends.{IsFirst, IsKind}
use Rattle.law_acks.proofs.Gone.{Counts, HaveBirths, counts_in}
use Rattle.law_acks.proofs.Histories.{are_of_history, message_suits}
use Rattle.law_acks.proofs.Pieces.{AreWellSaid, IsWellSaid}
use Rattle.law_acks.proofs.Sources.{sources_suit}

-- THE INVARIANT of a world
pub record Keeps (n : ℕ) (w : World) : Type 0 where
  pub whole : (s : ℕ) → IsWhole n s (w.stores s)
  pub tags : (s : ℕ) → HasSoundTags cells (w.stores s)
  pub edges : KeepsEdges cells w.stores (mail w.journal)
  pub said : AreWellSaid n (mail w.journal)

-- what holds of all holds of a member
pub all_at : {A : Type 0} (P : A → Type 0) (xs : List A) (x : A) → All P xs → Contains xs x → P x
all_at P xs x h k = subst P k.2 (h k.0 x k.1)

-- the order of messages does not matter
other_way : (nodes : ℕ → Store) (ms sent : List Sent) → KeepsEdges cells nodes (ms ++ sent)
    → KeepsEdges cells nodes (sent ++ ms)
other_way nodes ms sent k =
    let P : Sent → Type 0 = λ m. Promised cells nodes (says m) in
    let parts = all_parts P ms sent k.promises in
    record { edges = k.edges; promises = All-append P sent ms parts.1 parts.0; notes = k.notes }

starts : (n : ℕ) → Keeps n (start n)
starts n = record {
  whole = start_whole n;
  tags = start_tags n;
  edges = start_kept n;
  said = All-nil (λ (m : Sent). IsWellSaid n m.packet.message);
}

-- ---- a server of a run takes an input

module _ (n : ℕ) (on : StandOn n) (events : List Event) (event : Event) (t : Taking)
    (is : taking_in n (run n events) event ≡ Some t) (acts : Acts n (run n events) t) (k : Keeps n (run n events)) where
  abbrev W : World
  W = run n events

  abbrev S : ℕ
  S = t.server

  abbrev A : Store
  A = W.stores S

  abbrev B : Store
  B = (effect A t.asked).store

  abbrev Out : List Sent
  Out = (effect A t.asked).out.sent

  -- what may be answered late
  abbrev Late : List (Saying Slot Cell)
  Late = late_in (mail W.journal)

  -- what it holds then is what it holds after one event more
  behind_is : (run n (events ++ event ∷ [])).stores S ≡ B
  behind_is =
      ap (λ (v : World). v.stores S) (run_more n (start n) events event)
      ∙ ap (λ (z : Step). z.stores S) (next_is n W event t is)
      ∙ after_itself W.stores S B

  patches : PatchesAreForDirs B
  patches =
      subst PatchesAreForDirs behind_is
      ((on.directories (events ++ event ∷ [])).patches S acts.least acts.most)

  suits_by : (along : Along) → ((file : FileId) (birth : ℕ) → IsOver A file birth → along.over file birth ≡ true)
      → along.late ≡ Late → (asked : Input) → t.asked ≡ asked → SuitsInput along n S A asked
  suits_by along counts same_late (input.Call moment call) same = tt
  suits_by along counts same_late (input.Tick moment word) same = tt
  suits_by along counts same_late (input.Arrival packet) same =
      let m : Sent = record { to = S; packet = packet } in
      let sent : Contains (mail W.journal) m = subst (HasCome W S) same acts.came in
      message_suits n on.contents events S acts.least acts.most along packet.from
      (sources_suit n on events S acts.least acts.most (k.whole S).together along counts same_late packet.from) packet.message
      (on.contents.carried events m sent)
      (all_at (λ (x : Sent). IsWellSaid n x.packet.message) (mail W.journal) m k.said sent)
      ((on.directories events).told m sent)
  suits_by along counts same_late input.Restart same = tt

  heard_by : (asked : Input) → t.asked ≡ asked → Promised cells W.stores (heard_in S asked)
  heard_by (input.Call moment call) same = tt
  heard_by (input.Tick moment word) same = tt
  heard_by (input.Arrival packet) same =
      let m : Sent = record { to = S; packet = packet } in
      let sent : Contains (mail W.journal) m = subst (HasCome W S) same acts.came in
      all_at (λ (x : Sent). Promised cells W.stores (says x)) (mail W.journal) m k.edges.promises sent
  heard_by input.Restart same = tt

  -- ---- births

  have_births : HaveBirths A
  have_births file x here =
      let alone = on.alone events S acts.least acts.most file in (
        alone.counted x.birth (record {
          before = events;
          behind = [];
          split = sym (append-nil events);
          was = inl (x, here, refl);
        }),
        alone.held x here,
      )

  abbrev First : Store
  First = (first_effect A t.asked).store

  first_moves : BirthsMove A First
  first_moves = (on.moves events event S t.asked is).0

  then_moves : BirthsMove First B
  then_moves = (on.moves events event S t.asked is).1

  counts_first : Counts (is_over First) A t.asked
  counts_first = counts_in (is_over First) A have_births t.asked (λ file m o. (over_tested First file m).1 o)

  counts_last : Counts (is_over B) A t.asked
  counts_last =
      counts_in (is_over B) A have_births t.asked
      (λ file m o. (over_tested B file m).1 (over_stays First B file m then_moves o))

  over_first : (file : FileId) (birth : ℕ) → IsOver A file birth → is_over First file birth ≡ true
  over_first file birth o = (over_tested First file birth).1 (over_stays A First file birth first_moves o)

  over_last : (file : FileId) (birth : ℕ) → IsOver A file birth → is_over B file birth ≡ true
  over_last file birth o =
      (over_tested B file birth).1 (over_stays A B file birth (moves_then A First B first_moves then_moves) o)

  -- ---- what its first effect leaves, and what it does

  abbrev pub AtFirst : Along
  AtFirst = record { over = is_over First; late = Late }

  pub first_is : IsFirst n S A (hears AtFirst (heard_in S t.asked)) (first_effect A t.asked)
  first_is =
      first_done AtFirst n S A (k.whole S) (are_of_history n on.contents events S acts.least acts.most)
      (on.away events S acts.least acts.most) t.asked acts.least acts.most (suits_by AtFirst over_first refl t.asked refl)
      counts_first (tags_in AtFirst A (k.tags S))

  abbrev pub Then : Along
  Then = in_the_end B Late

  pub good : IsKind n S A (hears Then (heard_in S t.asked)) B Out
  good =
      effect_good Then n S A (k.whole S) (are_of_history n on.contents events S acts.least acts.most)
      (on.away events S acts.least acts.most) t.asked acts.least acts.most (suits_by Then over_last refl t.asked refl)
      counts_last (tags_in Then A (k.tags S)) patches

  pub rule : KeepsTheRule W S t.asked
  rule = by_the_rule S A B Late (heard_in S t.asked) Out (moves_then A First B first_moves then_moves) good.good.rule

  pub acted : Keeps n (world_after W (effect_step W event S t.asked))
  acted = record {
    whole = each_after (λ j x. IsWhole n j x) W.stores S B k.whole good.good.whole;
    tags = each_after (λ j x. HasSoundTags cells x) W.stores S B k.tags (tags_out Then B good.good.tags);
    edges =
        other_way (after W.stores S B) (mail W.journal) Out
        (late cells W.stores S B (heard_in S t.asked) Out (mail W.journal) (λ a x h. h) k.edges
        (heard_by t.asked refl)
        (wider cells (λ x. Contains Late x) (SaidIn cells (mail W.journal)) S A B (heard_in S t.asked) Out
        (late_in_mail (mail W.journal)) rule));
    said = All-append (λ (m : Sent). IsWellSaid n m.packet.message) Out (mail W.journal) good.said k.said;
  }

-- EVERY RUN KEEPS IT
pub run_keeps : (n : ℕ) → StandOn n → (events : List Event) → Keeps n (run n events)
run_keeps n on events = holds_in_runs n (Keeps n) (record {
  first = starts n;
  idle = λ w event cause k. record { whole = k.whole; tags = k.tags; edges = k.edges; said = k.said };
  comes = λ past event server is k. absurd (no_server_comes event server is);
  acts = λ before event t is acts k. acted n on before event t is acts k;
}) events

-- EVERY EVENT keeps the rule
pub keeps_the_rule : (n : ℕ) → StandOn n → EventsKeepTheRule n
keeps_the_rule n on events event s asked is =
    let t : Taking = record { server = s; asked = asked } in
    rule n on events event t is (acts_is n (run n events) event t is) (run_keeps n on events)
