-- The whole of `serve`, from its start and its turns.
use Rattle.std.proofs.Common.{◌≡◌, ◌⊎◌, inl, inr, ℕ, ◌+◌, ◌≤◌, true, false, List, [], ◌∷◌, ◌++◌, length, take, Option, Some, None, refl, sym, ◌∙◌, ap, subst, Ok, append_assoc, length-append, arith}
use Rattle.std.proofs.lemmas.List.{append-nil}
use Rattle.pg_disk.specs.Disk.{IsSettled}
use Rattle.pg_disk.specs.Told.{given, steps}
use Rattle.pg_disk.specs.Told.{Told as DiskTold}
use Rattle.pg_disk.specs.Moments.{LeavesSince}
use Rattle.pg_disk.specs.Synced.{KeepsOthers}
use Rattle.pg_disk.proofs.Moments.{leaves_started, leaves_weaker}
use Rattle.pg_checkpoint.specs.Saves.{AreSettled}
use Rattle.pg_checkpoint.specs.Slots.{Slot}
use Rattle.pg_event.specs.declared.status.Status.{Status}
use Rattle.pg_event.specs.declared.status.Status.TheVariants as status
use Rattle.pg_log.specs.Bytes.{OpensTo}
use Rattle.pg_log.specs.Log.{OpensWithOrWithout}
use Rattle.pg_log.proofs.Unique.{opens_once}
use Rattle.pg_net.specs.Net.{Datagram, IsTaken, with_bound}
use Rattle.pg_net.specs.Net.{Told as NetTold}
use Rattle.pg_net.specs.Clock.{Told as ClockTold}
use Rattle.pg_net.proofs.Noted.{noted-none, taken-none}
use Rattle.pg_store.specs.declared.store.Store.{Store}
use Rattle.pg_host.specs.declared.asking.Asked.{Asked}
use Rattle.pg_host.specs.Causes.{IsFault, IsRefusal, IsWhole}
use Rattle.pg_host.specs.Entries.{entries_for, entry_for, input_of, start_entry, start_of}
use Rattle.pg_host.specs.Inputs.{asked}
use Rattle.pg_host.specs.Logs.{IsFound, LeavesLog, OpensToSome, begin_entry, begun, count_of, is_empty}
use Rattle.pg_host.specs.Savings.{RunsOn, StandsWith}
use Rattle.pg_host.specs.Slots.{Agree, AgreeSince, Agrees, AreWell, SlotsBehind}
use Rattle.pg_host.specs.Sends.{sends}
use Rattle.pg_host.specs.Starts.{LeavesAtStart, Started}
use Rattle.pg_host.specs.Host.{Scene, scene, Goes, Ends, Runs, Served}
use Rattle.pg_host.proofs.Ended.{IsPart, done_not_spent, fault_part, not_whole, spent_not_done}
use Rattle.pg_server.specs.declared.input.Input.TheVariants.{Restart}
use Rattle.pg_host.proofs.Agreeing.{agrees_begun, begun_agreed, begun_log, old_count}
use Rattle.pg_host.proofs.Files.{files_of_log, files_since_then, files_then, log_moves, slots_load, slots_settled}
use Rattle.pg_host.proofs.Going.{goes_then, goes_ends, ends_of, ends_within}
use Rattle.pg_host.proofs.Leaves.{leaves_on, to_some}

module _ (nt ct dt : Type 0) (port turns : ℕ) (a b d : Scene) where
  -- `stop` came
  abbrev pub runs_stopped : (k : ℕ) → k + 1 ≤ turns → Goes nt ct dt port k false a b → Goes nt ct dt port 1 true b d → Runs nt ct dt port turns status.Done a d
  runs_stopped k within g h =
      let all : Goes nt ct dt port (k + 1) true a d = goes_then nt ct dt port k 1 true a b d g h in
      record {
        ends = ends_of nt ct dt port (k + 1) turns true a d within all;
        whole = λ is. (all.enough, all.sent);
        stopped = λ is. all.stops;
        spent = λ is. absurd (done_not_spent is);
      }

  -- all takes were made
  abbrev pub runs_spent : Goes nt ct dt port turns false a b → Runs nt ct dt port turns status.TurnsSpent a b
  runs_spent g = record {
    ends = ends_of nt ct dt port turns turns false a b (omega arith) g;
    whole = λ is. (g.enough, g.sent);
    stopped = λ is. absurd (spent_not_done is);
    spent = λ is. (g.stops, g.number);
  }

  -- something failed
  abbrev pub runs_failed : (k l m n o : ℕ) (s : Status) → k + 1 ≤ turns → IsFault l m n o s → Goes nt ct dt port k false a b → Ends nt ct dt port 1 b d → Runs nt ct dt port turns s a d
  runs_failed k l m n o s within fault g e =
      let part : IsPart s = fault_part l m n o s fault in
      record {
        ends = ends_within nt ct dt port (k + 1) turns a d within (goes_ends nt ct dt port k 1 a b d g e);
        whole = λ is. absurd (not_whole s part is);
        stopped = λ is. absurd (part.0 is);
        spent = λ is. absurd (part.1 is);
      }

-- nothing was done to the log
pub none_at_start : (server servers : ℕ) (d0 : DiskTold) → LeavesAtStart server servers d0 d0
none_at_start server servers d0 settled entries opens =
    leaves_started d0.chosen 0 (OpensWithOrWithout entries (begin_entry server servers (is_empty entries))) d0.history
    (λ image is. inl (subst (λ (f : List ℕ). OpensTo f entries) (sym (settled image is)) opens))

some_at_start : (server servers : ℕ) (d0 d1 : DiskTold) → LeavesAtStart server servers d0 d1 → IsSettled (steps d0 0) → (entries : List (List ℕ)) → OpensTo (given d0 0) entries
    → LeavesSince 0 d0 d1 (OpensToSome entries (begin_entry server servers (is_empty entries) ∷ []))
some_at_start server servers d0 d1 since settled entries opens =
    let first : List ℕ = begin_entry server servers (is_empty entries) in
    leaves_weaker d0.chosen 0 (OpensWithOrWithout entries first) (OpensToSome entries (first ∷ [])) d0.history d1.history (to_some entries first) (since settled entries opens)

-- the slots agree at each moment of a start, where they did
start_agrees : (server servers : ℕ) (d0 d1 : DiskTold) → KeepsOthers 0 d0 d1 → (entries : List (List ℕ)) → LeavesSince 0 d0 d1 (OpensWithOrWithout entries (begin_entry server servers (is_empty entries)))
    → input_of (entry_for Restart) ≡ Ok Restart → AreSettled d0 → OpensTo (given d0 0) entries → Agree server servers (given d0 0) (given d0 1) (given d0 2) → AgreeSince server servers d0 d1
start_agrees server servers d0 d1 keeps entries leaves restart slots opens agree =
    log_moves d0 d1 keeps slots (OpensWithOrWithout entries (begin_entry server servers (is_empty entries))) (Agree server servers) leaves
    (λ log there. λ es opened slot loads. here log es slot there opened (agree entries opens slot loads))
  where
    here : (log : List ℕ) (es : List (List ℕ)) (slot : Option Slot) → OpensWithOrWithout entries (begin_entry server servers (is_empty entries)) log → OpensTo log es → Agrees server servers entries slot → Agrees server servers es slot
    here log es slot (inl without) opened agrees = subst (λ (l : List (List ℕ)). Agrees server servers l slot) (opens_once log entries es without opened) agrees
    here log es slot (inr one) opened agrees =
        subst (λ (l : List (List ℕ)). Agrees server servers l slot) (opens_once log (entries ++ begin_entry server servers (is_empty entries) ∷ []) es one opened)
        (agrees_begun server servers slot entries restart agrees)

module _ (nt ct dt : Type 0) (server servers port turns : ℕ) (s : Status) (n0 : NetTold) (t0 : ℕ) (c0 : ClockTold) (d0 : DiskTold) where
  -- it ended before any take
  pub served_none : (n1 : NetTold) (t1 : ℕ) (d1 : DiskTold) → IsPart s → (nt → ((n1 ≡ n0) × (dt → d1 ≡ d0)) ⊎ (n1 ≡ with_bound n0 (port + server))) → t1 ≡ t0 → (dt → KeepsOthers 0 d0 d1) → (dt → LeavesAtStart server servers d0 d1)
      → (dt → input_of (entry_for Restart) ≡ Ok Restart) → (IsRefusal s → dt → LeavesLog d0 d1) → Served nt ct dt server servers port turns s n0 n1 t0 t1 c0 c0 d0 d1
  served_none n1 t1 d1 part net takes others since restart refused = record {
    old = None;
    checkpoint = None;
    gave = [];
    moments = [];
    words = [];
    is_old = inl refl;
    folds = λ tells agree. refl;
    few = omega arith;
    given = λ tells. given_same (net tells) ∙ sym (append-nil n0.given);
    takes = subst (λ (t : ℕ). IsTaken 0 t0 t) (sym takes) (taken-none t0);
    noted_moments = λ tells. noted-none c0.moments;
    noted_words = λ tells. noted-none c0.words;
    enough = inl (record { each_moment = refl; each_word = refl });
    stops = (false, refl);
    bound = λ tells. bound_or (net tells);
    sent = λ tells. (0, sent_same (net tells) ∙ sym (append-nil n0.sent));
    whole = λ is. absurd (not_whole s part is);
    stopped = λ is. absurd (part.0 is);
    spent = λ is. absurd (part.1 is);
    read = refl;
    leaves = λ tells settled entries opens. some_at_start server servers d0 d1 (since tells) settled entries opens;
    kept = λ net_tells tells settled entries opens image is. inl (sent_same (net net_tells));
    agree = λ tells settled slots entries opens agree. start_agrees server servers d0 d1 (others tells) entries (since tells settled entries opens) (restart tells) slots opens agree;
    saved = λ is. absurd (not_whole s part is);
    others = λ tells. files_of_log d0 d1 (others tells);
    refused = refused;
  } where
    given_same : ((n1 ≡ n0) × (dt → d1 ≡ d0)) ⊎ (n1 ≡ with_bound n0 (port + server)) → n1.given ≡ n0.given
    given_same (inl same) = ap (λ (t : NetTold). t.given) same.0
    given_same (inr same) = ap (λ (t : NetTold). t.given) same

    sent_same : ((n1 ≡ n0) × (dt → d1 ≡ d0)) ⊎ (n1 ≡ with_bound n0 (port + server)) → n1.sent ≡ n0.sent
    sent_same (inl same) = ap (λ (t : NetTold). t.sent) same.0
    sent_same (inr same) = ap (λ (t : NetTold). t.sent) same

    bound_or : ((n1 ≡ n0) × (dt → d1 ≡ d0)) ⊎ (n1 ≡ with_bound n0 (port + server)) → ((n1 ≡ n0) × (dt → d1 ≡ d0) × (IsWhole s → ⊥)) ⊎ (n1.bound ≡ Some (port + server))
    bound_or (inl same) = inl (same.0, same.1, not_whole s part)
    bound_or (inr same) = inr (ap (λ (t : NetTold). t.bound) same)

  -- it made its turns
  module _ (nm : NetTold) (tm : ℕ) (dm : DiskTold) (log0 : Option ℕ) (store0 : Store) (n1 : NetTold) (t1 : ℕ) (c1 : ClockTold) (d1 : DiskTold) (log1 : Option ℕ) (store1 : Store)
      (bind : nt → nm ≡ with_bound n0 (port + server)) (takes : tm ≡ t0)
      (count : ℕ) (st : Started dt server servers d0 dm log0 store0 count) (since : dt → LeavesAtStart server servers d0 dm) (others : dt → KeepsOthers 0 d0 dm) (restart : dt → input_of (entry_for Restart) ≡ Ok Restart) (starts : dt → start_of (start_entry server servers) ≡ Ok (server, servers)) where
    abbrev a : Scene
    a = scene nm tm c0 dm log0 store0

    abbrev b : Scene
    b = scene n1 t1 c1 d1 log1 store1

    abbrev begins : Store
    begins = begun server servers st.checkpoint st.folded.old

    abbrev first : List (List ℕ) → List ℕ
    first entries = begin_entry server servers (is_empty entries)

    opened : dt → IsFound server servers st.checkpoint st.folded.old (given d0 0) (given d0 1) (given d0 2)
    opened tells =
        let found = st.loaded tells in
        record { entries = st.entries; opens = st.opened tells; is = st.folded.is; slot = found.0; loads = found.1; checkpoint_is = found.2 }

    same_sends : (own : List Asked) → sends port store0 own ≡ sends port begins own
    same_sends own = ap (λ (x : Store). sends port x own) st.folded.store_is

    sent_same : nt → nm.sent ≡ n0.sent
    sent_same tells = ap (λ (t : NetTold). t.sent) (bind tells)

    kept_image : (entries : List (List ℕ)) (own : List Asked) (image : List ℕ) → nt → st.entries ≡ entries
        → (k : ℕ) × OpensTo image ((st.entries ++ first st.entries ∷ []) ++ entries_for (take k own)) × ((n : ℕ) × (n1.sent ≡ nm.sent ++ take n (sends port store0 (take k own))))
        → (k : ℕ) × OpensTo image (entries ++ first entries ∷ entries_for (take k own)) × ((n : ℕ) × (n1.sent ≡ n0.sent ++ take n (sends port begins (take k own))))
    kept_image entries own image tells same there =
        let k : ℕ = there.0 in
        let n : ℕ = there.2.0 in (
          k,
          subst (λ (es : List (List ℕ)). OpensTo image (es ++ first es ∷ entries_for (take k own))) same
              (subst (λ (es : List (List ℕ)). OpensTo image es) (append_assoc st.entries (first st.entries ∷ []) (entries_for (take k own))) there.1),
          (n, there.2.1 ∙ ap (λ (l : List Datagram). l ++ take n (sends port store0 (take k own))) (sent_same tells) ∙ ap (λ (l : List Datagram). n0.sent ++ take n l) (same_sends (take k own))),
        )

    folds_as_none : dt → Agree server servers (given d0 0) (given d0 1) (given d0 2) → begun server servers st.checkpoint st.folded.old ≡ begun server servers None st.folded.old
    folds_as_none tells agree =
        let found = st.loaded tells in
        begun_agreed server servers st.checkpoint st.folded.old st.entries found.0 (agree st.entries (st.opened tells) found.0 found.1) found.2 st.folded.is

    with_count : dt → StandsWith (st.entries ++ first st.entries ∷ []) count a
    with_count tells = record { stands = st.stands tells; counted = omega (arith, length-append st.entries (first st.entries ∷ []), st.counted) }

    count_is : dt → count ≡ count_of st.folded.old + 1
    count_is tells = st.counted ∙ ap (λ (n : ℕ). n + 1) (old_count server servers st.folded.old st.entries st.folded.is)

    well : dt → AreSettled d0 → Agree server servers (given d0 0) (given d0 1) (given d0 2) → AreWell server servers (st.entries ++ first st.entries ∷ []) dm store0
    well tells slots agree =
        let found = st.loaded tells in
        let log = begun_log server servers st.folded.old st.entries (restart tells) (starts tells) st.folded.is in
        record {
          settled = slots_settled d0 dm (others tells) slots;
          slot = found.0;
          loads = slots_load d0 dm (others tells) found.0 found.1;
          agrees = agrees_begun server servers found.0 st.entries (restart tells) (agree st.entries (st.opened tells) found.0 found.1);
          inputs = log.0;
          log = log.1;
          fold = st.folded.store_is ∙ folds_as_none tells agree ∙ log.2;
        }

    pub served_runs : (IsRefusal s → ⊥) → RunsOn nt ct dt server servers port 1 count turns s a b → Served nt ct dt server servers port turns s n0 n1 t0 t1 c0 c1 d0 d1
    served_runs runs_on on =
        let r : Runs nt ct dt port turns s a b = on.runs in
        let own : List Asked = asked r.ends.gave r.ends.moments r.ends.words in
        record {
          old = st.folded.old;
          checkpoint = st.checkpoint;
          gave = r.ends.gave;
          moments = r.ends.moments;
          words = r.ends.words;
          is_old = inr opened;
          folds = λ tells agree. folds_as_none tells agree;
          few = r.ends.few;
          given = λ tells. r.ends.given tells ∙ ap (λ (t : NetTold). t.given ++ r.ends.gave) (bind tells);
          takes = subst (λ (t : ℕ). IsTaken (length r.ends.gave) t t1) takes r.ends.takes;
          noted_moments = r.ends.noted_moments;
          noted_words = r.ends.noted_words;
          enough = r.ends.enough;
          stops = r.ends.stops;
          bound = λ tells. inr (r.ends.bound tells ∙ ap (λ (t : NetTold). t.bound) (bind tells));
          sent = λ tells.
              let n : ℕ = (r.ends.sent tells).0 in
              (n, (r.ends.sent tells).1 ∙ ap (λ (l : List Datagram). l ++ take n (sends port store0 own)) (sent_same tells) ∙ ap (λ (l : List Datagram). n0.sent ++ take n l) (same_sends own));
          whole = λ is. (
            opened,
            (r.whole is).0,
            λ tells. (r.whole is).1 tells ∙ ap (λ (l : List Datagram). l ++ sends port store0 own) (sent_same tells) ∙ ap (λ (l : List Datagram). n0.sent ++ l) (same_sends own),
          );
          stopped = r.stopped;
          spent = r.spent;
          read = r.ends.read;
          leaves = λ tells settled entries opens.
              let same : st.entries ≡ entries = opens_once (given d0 0) st.entries entries (st.opened tells) opens in
              leaves_on d0 dm d1 entries (first entries ∷ []) (entries_for own) (others tells).chosen
              (some_at_start server servers d0 dm (since tells) settled entries opens)
              (subst (λ (es : List (List ℕ)). LeavesSince 0 dm d1 (OpensToSome (es ++ first es ∷ []) (entries_for own))) same
              (r.ends.leaves tells (st.entries ++ first st.entries ∷ []) (st.stands tells)));
          kept = λ net_tells tells settled entries opens image is.
              let same : st.entries ≡ entries = opens_once (given d0 0) st.entries entries (st.opened tells) opens in
              inr (kept_image entries own image net_tells same
              (r.ends.kept net_tells tells (st.entries ++ first st.entries ∷ []) (st.stands tells) image is));
          agree = λ tells settled slots entries opens agree.
              let start : AgreeSince server servers d0 dm = start_agrees server servers d0 dm (others tells) entries (since tells settled entries opens) (restart tells) slots opens agree in
              files_since_then (Agree server servers) d0 dm d1 (others tells).chosen start
              (on.agree tells (st.entries ++ first st.entries ∷ []) (with_count tells) (well tells slots agree));
          saved = λ is tells was loads.
              let now = (on.saves is tells).saved (st.entries ++ first st.entries ∷ []) (with_count tells) was (slots_load d0 dm (others tells) was loads) in (
                now.0,
                now.1,
                subst (λ (n : ℕ). SlotsBehind server servers 1 n begins was own now.0) (count_is tells)
                    (subst (λ (x : Store). SlotsBehind server servers 1 count x was own now.0) st.folded.store_is now.2),
              );
          others = λ tells. files_then d0 dm d1 (files_of_log d0 dm (others tells)) (r.ends.others tells);
          refused = λ refusal. absurd (runs_on refusal);
        }
