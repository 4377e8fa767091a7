-- How an event begins and ends: behind the first effect come the house rules, the intentions, and
-- what is sent.
use Rattle.std.proofs.Common.{ℕ, Bool, true, false, cond, List, ◌++◌}
use Rattle.std.proofs.lemmas.List.Elements.{All-append, All-weaker}
use Rattle.pg_run.specs.pg_entries.declared.cell.Cell.{Cell}
use Rattle.pg_run.specs.theory_flood.Promises.{Saying}
use Rattle.pg_run.specs.theory_flood.Promises.Saying.{AckTo, CellFor, Other}
use Rattle.pg_run.specs.theory_flood.Server.{Slot}
use Rattle.pg_run.proofs.theory_flood.Steps.{AllMay, HasSoundTags, May, Rule, Steps, Steps-refl, by_steps}
use Rattle.pg_run.specs.pg_msg.declared.message.Sent.{Sent}
use Rattle.pg_run.specs.pg_store.declared.store.Store.{Store}
use Rattle.pg_run.specs.pg_pieces.Done.{Done}
use Rattle.pg_run.specs.pg_cells.Sending.{is_chosen}
use Rattle.pg_run.proofs.pg_intentions.Steady.{begin_end_stays}
use Rattle.pg_run.specs.pg_server.Local.{intended, settled}
use Rattle.pg_run.specs.theory_flood_pieces.Laws.{AreAlike}
use Rattle.pg_run.specs.theory_flood_pieces.Seen.{Hearing, cells_in, says}
use Rattle.pg_run.specs.theory_flood_pieces.Whole.{IsWhole, PatchesAreForDirs}
use Rattle.pg_run.proofs.theory_flood_pieces.Acks.{none_noted}
use Rattle.pg_run.proofs.theory_flood_pieces.Events.{IsGood}
use Rattle.pg_run.proofs.theory_flood_pieces.Grown.{GoesOn, goes_on_further, goes_on_itself}
use Rattle.pg_run.proofs.theory_flood_pieces.Sending.{finish_may, others_may}
use Rattle.pg_run.proofs.theory_flood_pieces.Settling.{settle_steps, settle_work, whole_settle}
use Rattle.pg_run.proofs.Event.{asks_by_have, asks_sent, cells_sent}
use Rattle.law_acks.proofs.Pieces.{AreWellSaid, IsDone, MayGoLast, beside_done, on_done, same_done}
use Rattle.law_acks.proofs.Asked.{IsUnread, IsWell, all_unread, all_well, cells_well}

-- ---- how an event begins: where the server was, or behind an answer that it heard

pub record Begins (n s : ℕ) (a : Store) (heard : Hearing) (b : Store) : Type 0 where
  pub rule : (c : Store) (sent : List Sent) → Steps (cells_in heard.along) b c
      → AllMay (cells_in heard.along) s a c heard.said sent → Rule (cells_in heard.along) s a c heard.said sent
  pub on : GoesOn (cells_in heard.along) a b
  pub tags : HasSoundTags (cells_in heard.along) a → HasSoundTags (cells_in heard.along) b
  pub whole : IsWhole n s b

pub begins_here : (n s : ℕ) (a : Store) (heard : Hearing) → IsWhole n s a → Begins n s a heard a
begins_here n s a heard k = record {
  rule = λ c sent f may.
      by_steps (cells_in heard.along) s a c heard.said sent f (none_noted heard.along a c heard.said) may;
  on = goes_on_itself (cells_in heard.along) a;
  tags = λ tags. tags;
  whole = k;
}

-- how it ends: by the rule, and all is well said
pub record IsKind (n s : ℕ) (a : Store) (heard : Hearing) (b : Store) (sent : List Sent) : Type 0 where
  pub good : IsGood n s a heard b sent
  pub said : AreWellSaid n sent

-- what comes of an event up to here
pub record IsFirst (n s : ℕ) (a : Store) (heard : Hearing) (d : Done) : Type 0 where
  pub start : Store
  pub begins : Begins n s a heard start
  pub goes : IsDone n s start heard d

-- what it covered it goes on to cover
pub first_on : (n s : ℕ) (a : Store) (heard : Hearing) (d : Done) → IsFirst n s a heard d
    → GoesOn (cells_in heard.along) a d.store
first_on n s a heard d f =
    goes_on_further (cells_in heard.along) a f.start d.store f.begins.on f.goes.way.steps.moves.covers

module _ (n s : ℕ) (a : Store) (heard : Hearing) where
  -- what may be answered late is so whichever store there was, and so is what may be sent
  may_from : (b c : Store) (x : Saying Slot Cell) → May (cells_in heard.along) s b c heard.said x
      → May (cells_in heard.along) s a c heard.said x
  may_from b c (CellFor owner at tag held) h = h
  may_from b c (AckTo owner at tag) h = h
  may_from b c Other h = tt

  all_from : (b c : Store) (ms : List Sent) → AllMay (cells_in heard.along) s b c heard.said ms
      → AllMay (cells_in heard.along) s a c heard.said ms
  all_from b c ms h =
      All-weaker (λ m. May (cells_in heard.along) s b c heard.said (says m))
      (λ m. May (cells_in heard.along) s a c heard.said (says m))
      (λ m may. may_from b c (says m) may) ms h

  -- ---- the house rules and the intentions

  pub settled_first : (d : Done) → IsFirst n s a heard d → IsFirst n s a heard (settled d)
  settled_first d f = record {
    start = f.start;
    begins = f.begins;
    goes =
        same_done n s f.start heard (settled d).store d.work (settled d).work
        (let same = settle_work d.store d.work in record { sent = same.sent; from = same.from; tail = same.tail })
        (on_done n s f.start heard d.store d.work f.goes (settled d).store
        (settle_steps n s d.store d.work f.goes.way.whole)
        (whole_settle n s d.store d.work f.goes.way.whole));
  }

  intended_first : (d : Done) → PatchesAreForDirs (intended d).store → IsFirst n s a heard d
      → IsFirst n s a heard (intended d)
  intended_first d patches f =
      let stays = begin_end_stays d.store d.work in
      let alike : AreAlike d.store (intended d).store =
      record { servers = stays.servers; tags = stays.tags; names = stays.names; replicas = stays.replicas } in
      record {
        start = f.start;
        begins = f.begins;
        goes =
            same_done n s f.start heard (intended d).store d.work (intended d).work
            (record { sent = stays.sent; from = stays.from; tail = stays.tail })
            (beside_done n s f.start heard d.store d.work f.goes (intended d).store alike patches);
      }

  pub end_first : (d : Done) (t : Bool) → PatchesAreForDirs (cond t (intended (settled d)) d).store
      → IsFirst n s a heard d → IsFirst n s a heard (cond t (intended (settled d)) d)
  end_first d true patches f = intended_first (settled d) patches (settled_first d f)
  end_first d false patches f = f

  -- ---- what is sent in the end

  pub ended_good : (d : Done) → IsFirst n s a heard d → HasSoundTags (cells_in heard.along) a
      → IsKind n s a heard d.store (((d.work.sent ++ cells_sent d) ++ asks_sent d) ++ d.work.tail)
  ended_good d f tags =
      let b = d.store in
      let way = f.goes.way in
      let all = d.work.sent ++ cells_sent d in
      let front = all ++ asks_sent d in
      let unread = All-weaker (MayGoLast n) IsUnread (λ m last. last.0) d.work.tail f.goes.last in
      let sound = way.steps.tags (f.begins.tags tags) in
      let sent = all_from f.start b d.work.sent (way.sends b (Steps-refl (cells_in heard.along) b)) in
      let may = All-append (λ m. May (cells_in heard.along) s a b heard.said (says m)) front d.work.tail
      (All-append (λ m. May (cells_in heard.along) s a b heard.said (says m)) all (asks_sent d)
      (finish_may heard.along n s a b heard.said sound way.whole d.work sent)
      (others_may heard.along s a b heard.said (asks_sent d) (asks_by_have IsUnread b d.work.begun (all_unread b))))
      (others_may heard.along s a b heard.said d.work.tail unread) in
      record {
        good = record {
          rule = f.begins.rule b (front ++ d.work.tail) way.steps may;
          tags = sound;
          whole = way.whole;
        };
        said = All-append (IsWell n) front d.work.tail
            (All-append (IsWell n) all (asks_sent d)
            (All-append (IsWell n) d.work.sent (cells_sent d) f.goes.said
            (cells_well n b (is_chosen d.work.touched d.work.linked)))
            (asks_by_have (IsWell n) b d.work.begun (all_well n b)))
            (All-weaker (MayGoLast n) (IsWell n) (λ m last. last.1) d.work.tail f.goes.last);
      }
