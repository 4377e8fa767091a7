-- Contents are of the histories of their files, so what comes to a server suits it.
use Rattle.std.proofs.Common.{ℕ, ◌≡◌, ◌≤◌, List, Some, sym, ap, subst}
use Rattle.pg_run.specs.pg_base.declared.head.Head.{Head}
use Rattle.pg_run.specs.pg_base.declared.id.FileId.{FileId}
use Rattle.pg_run.specs.pg_base.declared.stamp.Stamp.{Stamp}
use Rattle.pg_run.specs.pg_content.Content.{ContentValue}
use Rattle.pg_run.specs.pg_content.StandsFor.{StandsFor}
use Rattle.pg_run.proofs.pg_content.Covering.{stands_versions}
use Rattle.pg_run.specs.pg_entries.declared.cell.Cell.{Cell}
use Rattle.pg_run.specs.pg_entries.declared.cell.Cell.TheVariants as cell
use Rattle.pg_run.specs.pg_event.declared.event.Event.{Event}
use Rattle.pg_run.specs.pg_msg.declared.message.Message.{Message}
use Rattle.pg_run.specs.pg_msg.declared.message.Message.TheVariants as message
use Rattle.pg_run.specs.pg_replica.declared.replica.Replica.{Replica}
use Rattle.pg_run.specs.pg_store.Store.{replica_at}
use Rattle.pg_run.specs.theory_flood_pieces.Histories.{IsOfHistory}
use Rattle.pg_run.specs.theory_flood_pieces.Seen.{Along}
use Rattle.pg_run.specs.Away.{NamesDirectory}
use Rattle.pg_run.specs.Histories.{BringsVersion, TellsHead, TellsOfHistory, content_after, taken_after, versions_after}
use Rattle.pg_run.specs.Journal.{versions}
use Rattle.pg_run.specs.Run.{World, run}
use Rattle.pg_run.specs.State.{policy_made}
use Rattle.law_acks.specs.Histories.{HaveHistories, HoldHistories, IsContentOf}
use Rattle.law_acks.proofs.Came.{SourceSuits}
use Rattle.law_acks.proofs.Cells.{Suits}
use Rattle.law_acks.proofs.Contents.{AreOfHistory}
use Rattle.law_acks.proofs.Effects.{SuitsMessage}
use Rattle.law_acks.proofs.Heads.{IsHeadComing}
use Rattle.law_acks.proofs.Pieces.{IsWellSaid}

-- CONTENTS ARE OF THE HISTORIES
pub hold_histories : (n : ℕ) → HaveHistories n → HoldHistories n
hold_histories n k events s least most file x here =
    let h = versions_after n events file in
    let c = content_after n events s file in
    let stands : StandsFor c h (taken_after n events s file) = k.heads events s file in
    let is : x.content ≡ c = k.held events file s least most x here in
    let of : IsOfHistory h c =
    record { history = k.made events file; order = stands.order; versions = stands_versions h c (taken_after n events s file) stands } in
    record {
      history = subst (IsOfHistory h) (sym is) of;
      policy = ap (λ (z : ContentValue). z.policy) is;
    }

module _ (n : ℕ) (k : HaveHistories n) (events : List Event) (s : ℕ) (least : 1 ≤ s) (most : s ≤ n) where
  abbrev W : World
  W = run n events

  content_is : (file : FileId) (x : Replica) → replica_at (W.stores s) file ≡ Some x → IsContentOf W file x
  content_is file x here = hold_histories n k events s least most file x here

  -- WHAT A SERVER HOLDS
  pub are_of_history : AreOfHistory (W.stores s)
  are_of_history = record {
    histories = λ file. versions file W.history;
    are = λ file. k.made events file;
    held = λ file x here. (content_is file x here).history;
  }

  cell_suits : (file : FileId) (c : Cell) → BringsVersion W file c → Suits (W.stores s) file c
  cell_suits file (cell.Place place) of = tt
  cell_suits file (cell.Flag flag) of = tt
  cell_suits file (cell.Entry e sure) of = tt
  cell_suits file (cell.Version v) of = record {
    policy = policy_made file W.journal;
    history = versions file W.history;
    made = of.made;
    among = of.among;
    whole = of.whole;
    held = λ x here. (let is = content_is file x here in (is.history, is.policy));
  }

  -- what is told of a version by its head
  pub head_suits : (file : FileId) (head : Head) → TellsHead W file head → IsHeadComing (W.stores s) file head
  head_suits file head of = record {
    policy = policy_made file W.journal;
    history = versions file W.history;
    made = of.made;
    among = of.among;
    whole = of.whole;
    held = λ x here. (let is = content_is file x here in (is.history, is.policy));
  }

  -- WHAT COMES TO IT, where what it noted suits
  module _ (along : Along) (from : ℕ) (sources : (file : FileId) (stamp : Stamp) → SourceSuits along s (W.stores s) from file stamp) where
    pub message_suits : (m : Message) → TellsOfHistory W m → IsWellSaid n m → NamesDirectory m
        → SuitsMessage along n s (W.stores s) from m
    message_suits (message.Cell ends tag c) of well dir = cell_suits ends.file c of
    message_suits (message.Harbinger ends tag head) of well dir = head_suits ends.file head of
    message_suits (message.Delta ends d) of well dir = sources ends.file d.head.stamp
    message_suits (message.Piece ends p) of well dir = sources ends.file p.head.stamp
    message_suits (message.Grant ends granted) of well dir = well
    message_suits (message.PlaceIs directory e) of well dir = dir
    message_suits (message.Tell directory e) of well dir = dir
    message_suits (message.Walk ends origin birth hops word) of well dir = well
    message_suits m of well dir = tt
