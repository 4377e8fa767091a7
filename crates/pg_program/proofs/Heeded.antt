-- What is done for words: for the command that they ask for, or nothing.
use Rattle.std.proofs.Common.{ℕ, Bool, ◌≡◌, ◌≢◌, ◌⊎◌, List, [], true, false, inl, inr}
use Rattle.pg_program.proofs.Ends.{Ended, ended, unbegun, unbegun_ended}
use Rattle.pg_program.specs.Acts.{Heeds, Keeps, Replays}
use Rattle.pg_program.specs.Seen.{Seen}
use Rattle.pg_command.specs.Words.{Asks, AsksForCall, AsksForNode, AsksForReplay, IsOfNode, Words}
use Rattle.pg_command.specs.declared.command.Command.{Command}
use Rattle.pg_command.specs.declared.command.Command.TheVariants.{Replay, Make, Soak, Node, Call, Help}
use Rattle.pg_event.specs.declared.status.Status.{Status}
use Rattle.pg_event.specs.declared.status.Status.TheVariants as status
use Rattle.pg_meter.specs.declared.meter.Reading.{Reading}

-- what the words leave alone of source, sink, net, disk and clock
pub record Left (S K N D C : Type 0) (words : Words) (s : Status) (s0 s1 : S) (k0 k1 : K) (n0 n1 : N) (d0 d1 : D) (c0 c1 : C) : Type 0 where
  pub unread : (AsksForReplay words → ⊥) → s1 ≡ s0
  pub untouched : (AsksForCall words → ⊥) → s ≢ status.Done → s ≢ status.WriteFault → k1 ≡ k0
  pub same_net : (AsksForNode words → ⊥) → (AsksForCall words → ⊥) → n1 ≡ n0
  pub same_disk : (AsksForNode words → ⊥) → d1 ≡ d0
  pub same_clock : (AsksForNode words → ⊥) → c1 ≡ c0

asks_replay : (words : Words) (metered : Bool) → Asks words (Replay metered) → AsksForReplay words
asks_replay words true asks = inl asks
asks_replay words false asks = inr asks

module _ (S K N D C : Type 0) (words : Words) (s : Status) (s0 s1 : S) (k0 k1 : K) (n0 n1 : N) (d0 d1 : D) (c0 c1 : C) where
  pub left_by : (c : Command) → Asks words c → Keeps c s s0 s1 k0 k1 n0 n1 d0 d1 c0 c1
      → Left S K N D C words s s0 s1 k0 k1 n0 n1 d0 d1 c0 c1
  left_by (Replay metered) asks h = record {
    unread = λ none. absurd (none (asks_replay words metered asks));
    untouched = λ none. h.3;
    same_net = λ node call. h.0;
    same_disk = λ none. h.1;
    same_clock = λ none. h.2;
  }
  left_by (Make n) asks h = record {
    unread = λ none. h.0;
    untouched = λ none. h.4;
    same_net = λ node call. h.1;
    same_disk = λ none. h.2;
    same_clock = λ none. h.3;
  }
  left_by (Soak n) asks h = record {
    unread = λ none. h.0;
    untouched = λ none. h.4;
    same_net = λ node call. h.1;
    same_disk = λ none. h.2;
    same_clock = λ none. h.3;
  }
  left_by (Node server servers port name turns) asks h =
      let is_node : AsksForNode words = (Node server servers port name turns, tt, asks) in
      record {
        unread = λ none. h.0;
        untouched = λ none undone unwritten. h.1;
        same_net = λ node call. absurd (node is_node);
        same_disk = λ none. absurd (none is_node);
        same_clock = λ none. absurd (none is_node);
      }
  left_by (Call server port request) asks h =
      let is_call : AsksForCall words = (Call server port request, tt, asks) in
      record {
        unread = λ none. h.0;
        untouched = λ none. absurd (none is_call);
        same_net = λ node call. absurd (call is_call);
        same_disk = λ none. h.1;
        same_clock = λ none. h.2;
      }
  left_by (Help x) asks h = record {
    unread = λ none. h.0;
    untouched = λ none. h.4;
    same_net = λ node call. h.1;
    same_disk = λ none. h.2;
    same_clock = λ none. h.3;
  }

  pub silent_by : (c : Command) → IsOfNode c → Keeps c s s0 s1 k0 k1 n0 n1 d0 d1 c0 c1 → k1 ≡ k0
  silent_by (Replay metered) is h = absurd is
  silent_by (Make n) is h = absurd is
  silent_by (Soak n) is h = absurd is
  silent_by (Node server servers port name turns) is h = h.1
  silent_by (Call server port request) is h = absurd is
  silent_by (Help x) is h = absurd is

-- ---- by what is done for words

pub heeded : {S K N D C nt ct dt : Type 0} {words : Words} {m : List Reading} {s : Status} {a b : Seen}
    {s0 s1 : S} {k0 k1 : K} {n0 n1 : N} {d0 d1 : D} {c0 c1 : C}
    → Heeds nt ct dt words m s a b s0 s1 k0 k1 n0 n1 d0 d1 c0 c1
    → Ended words s a b
heeded {nt = nt} {ct = ct} {dt = dt} {words = words} {m = m} {s = s} {a = a} {b = b} h = elim h.other [
  | inl x ↦ ended nt ct dt words x.0 m s a b x.1 (h.obeys x.0 x.1).acts
  | inr x ↦ unbegun_ended words s a b (unbegun s x.0)
]

pub left : {S K N D C nt ct dt : Type 0} {words : Words} {m : List Reading} {s : Status} {a b : Seen}
    {s0 s1 : S} {k0 k1 : K} {n0 n1 : N} {d0 d1 : D} {c0 c1 : C}
    → Heeds nt ct dt words m s a b s0 s1 k0 k1 n0 n1 d0 d1 c0 c1
    → Left S K N D C words s s0 s1 k0 k1 n0 n1 d0 d1 c0 c1
left h = elim h.other [
  | inl x ↦ left_by _ _ _ _ _ _ _ _ _ _ _ _ _ _ _ _ _ x.0 x.1 (h.obeys x.0 x.1).keeps
  | inr x ↦ record {
    unread = λ none. x.1;
    untouched = λ none undone unwritten. x.2;
    same_net = λ node call. x.3;
    same_disk = λ none. x.4;
    same_clock = λ none. x.5;
  }
]

pub silent : {S K N D C nt ct dt : Type 0} {words : Words} {m : List Reading} {s : Status} {a b : Seen}
    {s0 s1 : S} {k0 k1 : K} {n0 n1 : N} {d0 d1 : D} {c0 c1 : C}
    → Heeds nt ct dt words m s a b s0 s1 k0 k1 n0 n1 d0 d1 c0 c1
    → AsksForNode words
    → k1 ≡ k0
silent {words = words} h asks =
    silent_by _ _ _ _ _ words _ _ _ _ _ _ _ _ _ _ _ asks.0 asks.1 (h.obeys asks.0 asks.2).keeps

-- what a replay does, with these meters or with none
pub replays : {S K N D C nt ct dt : Type 0} {words : Words} {m : List Reading} {s : Status} {a b : Seen}
    {s0 s1 : S} {k0 k1 : K} {n0 n1 : N} {d0 d1 : D} {c0 c1 : C}
    → Heeds nt ct dt words m s a b s0 s1 k0 k1 n0 n1 d0 d1 c0 c1
    → AsksForReplay words
    → (meters : List Reading) × Replays meters s a b
replays {m = m} h asks = elim asks [
  | inl x ↦ (m, (h.obeys (Replay true) x).acts)
  | inr x ↦ ([], (h.obeys (Replay false) x).acts)
]
