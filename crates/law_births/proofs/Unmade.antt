-- Messages make no versions, nor do ticks, nor the calls that are not about contents.
use Rattle.std.proofs.Common.{ℕ, ◌≡◌, ◌==◌, ◌/◌, ◌%◌, true, not, List, [], ◌∷◌, ◌++◌, length, slice_get, Option, None, Some, refl, ap, ◌∙◌}
use Rattle.std.specs.Map.{keys_of}
use Rattle.std.proofs.lemmas.List.{append-nil}
use Rattle.pg_run.specs.pg_base.declared.id.FileId.{FileId}
use Rattle.pg_run.specs.pg_call.declared.call.Call.{Call}
use Rattle.pg_run.specs.pg_calls.Calls.{do_call}
use Rattle.pg_run.specs.pg_calls.Dropping.{leave_of}
use Rattle.pg_run.specs.pg_calls.Forgetting.{bare_entry, dead_at}
use Rattle.pg_run.specs.pg_calls.GivingUp.{doubt_all}
use Rattle.pg_run.specs.pg_edges.declared.edge.Edge.{Edge}
use Rattle.pg_run.specs.pg_graph.Leaving.{bye_to}
use Rattle.pg_run.specs.pg_graph.Walks.{edges_of, most_hops, walk_along, walk_from, walk_of, walk_of_tick, with_few_edges}
use Rattle.pg_run.specs.pg_intent.declared.intent.Intent.{Intent}
use Rattle.pg_run.specs.pg_intent.Intent.{key_of}
use Rattle.pg_run.specs.pg_intent.Intents.{stands}
use Rattle.pg_run.specs.pg_intentions.Inviting.{invite_along, invite_each, invite_of, invites, loose_edge}
use Rattle.pg_run.specs.pg_msg.declared.message.Message.{Message}
use Rattle.pg_run.specs.pg_msg.declared.update.MadeVersion.{MadeVersion}
use Rattle.pg_run.specs.pg_msg.declared.update.Update.{Update}
use Rattle.pg_run.specs.pg_msg.declared.update.Update.TheVariants as update
use Rattle.pg_run.specs.pg_msg.declared.work.Work.{Work}
use Rattle.pg_run.specs.pg_msg.Work.{with_made}
use Rattle.pg_run.specs.pg_patch.Ranges.{RangesValue}
use Rattle.pg_run.specs.pg_pieces.Done.{Done}
use Rattle.pg_run.specs.pg_pieces.Intending.{begin_intent}
use Rattle.pg_run.specs.pg_pieces.Making.{make_flag, own_next, raise_flag}
use Rattle.pg_run.specs.pg_pieces.Taking.{take_place_noted}
use Rattle.pg_run.specs.pg_register.declared.flag.Flag.{Flag}
use Rattle.pg_run.specs.pg_register.declared.place.Place.{Place}
use Rattle.pg_run.specs.pg_server.Local.{receive}
use Rattle.pg_run.specs.pg_store.declared.store.Store.{Store}
use Rattle.pg_run.specs.pg_store.Births.{birth_of}
use Rattle.pg_run.specs.pg_store.Seen.{server_of}
use Rattle.pg_run.specs.pg_store.Views.{enter}
use Rattle.pg_run.proofs.theory_flood_pieces.Choices.{chosen}
use Rattle.pg_run.specs.Journal.{versions_in}
use Rattle.pg_run.proofs.Still.{begun_still, entry_cell_still, entry_still, flag_still, linked_still, place_still, version_still}
use Rattle.law_order.proofs.law_frame.Called.{call_keeps}
use Rattle.law_order.proofs.law_frame.Keeps.{Keeps}
use Rattle.law_order.proofs.law_frame.KeepsCalls.{KeepsCalls, MakesVersion}
use Rattle.law_order.proofs.law_frame.Received.{receive_keeps}

-- ---- versions of lists

pub versions_after : (us vs : List Update) → versions_in (us ++ vs) ≡ versions_in us ++ versions_in vs
versions_after [] vs = refl
versions_after (update.Version made ∷ us) vs = ap (λ (l : List MadeVersion). made ∷ l) (versions_after us vs)
versions_after (update.Place file place ∷ us) vs = versions_after us vs
versions_after (update.Flag file flag ∷ us) vs = versions_after us vs

pub name_after : (us : List Update) (u : Update) → versions_in (u ∷ []) ≡ [] → versions_in (us ++ u ∷ []) ≡ versions_in us
name_after us u none =
    versions_after us (u ∷ []) ∙ ap (λ (l : List MadeVersion). versions_in us ++ l) none ∙ append-nil (versions_in us)

-- ---- works of which the same versions were made

abbrev pub MakesNone : Work → Work → Type 0
MakesNone v w = versions_in w.made ≡ versions_in v.made

-- a flag is made
flagged_none : (b : Store) (f : FileId) (flag : Flag) (w : Work) → MakesNone w (make_flag b f flag w).work
flagged_none b f flag w =
    ap versions_in (flag_still b f flag (with_made w (update.Flag f flag))).made ∙ name_after w.made (update.Flag f flag) refl

pub raised_none : (b : Store) (f : FileId) (w : Work) → MakesNone w (raise_flag b f w).work
raised_none b f w = flagged_none b f (own_next b f true) w

-- a place
pub placed_none : (b : Store) (f : FileId) (place : Place) (w : Work)
    → MakesNone w (take_place_noted b f place (with_made w (update.Place f place))).work
placed_none b f place w =
    ap versions_in (place_still b f place (with_made w (update.Place f place))).made ∙ name_after w.made (update.Place f place) refl

begun_none : (b : Store) (i : Intent) (w : Work) → MakesNone w (begin_intent b i w).work
begun_none b i w = ap versions_in (begun_still (not (stands b.intents (key_of i))) w (key_of i)).made

-- ---- messages

abbrev IsUnmade : Work → Done → Type 0
IsUnmade w d = MakesNone w d.work

message_keeps : (a : Store) (w : Work) (m : Message) → Keeps a w m (IsUnmade w)
message_keeps a w m = record {
  cell_place = λ d ends tag place is here k. ap versions_in (place_still d.store ends.file place d.work).made ∙ k;
  cell_flag = λ d ends tag flag is here k. ap versions_in (flag_still d.store ends.file flag d.work).made ∙ k;
  cell_entry = λ d ends tag e sure is dir here k. ap versions_in (entry_cell_still d.store ends.file e sure d.work).made ∙ k;
  version = λ d file v is k. ap versions_in (version_still d.store file v d.work).made ∙ k;
  told_place = λ d dir e is held apart k. ap versions_in (place_still d.store e.child e.place d.work).made ∙ k;
  told_flag = λ d dir e flag is held among k. ap versions_in (flag_still d.store e.child flag d.work).made ∙ k;
  place_is = λ d dir e is held k. ap versions_in (entry_still d.store dir e d.work).made ∙ k;
  tell = λ d dir e is held k. ap versions_in (entry_still d.store dir e d.work).made ∙ k;
  links = λ d file birth is same k. ap versions_in (linked_still d.store file d.work.from birth d.work).made ∙ k;
  meets = λ d ends origin birth hops word is here k. ap versions_in (linked_still d.store ends.file origin birth d.work).made ∙ k;
  unlinks = λ d file birth is same k. k;
  acknowledges = λ d ends q tag is same k. k;
  begins = λ ends g is pending k. k;
  fills = λ ends is here filling k. k;
  raises = λ d ends is here few k. raised_none d.store ends.file d.work ∙ k;
  goes = λ ends stamp is may k. k;
  says_bye = λ d ends stamp e is may among k. begun_none d.store (bye_to ends.file (birth_of a ends.file) e) d.work ∙ k;
  ends_intent = λ d q is k. k;
  turns_intent = λ d q to is k. k;
  asks_granter = λ d ends g is same k. k;
  turns_wish = λ d file to is k. k;
  answers = λ d r of same k. k;
  tells_origin = λ d ends origin birth hops word is here k. k;
  passes_on = λ ends origin birth hops word left rest i e is here at k. k;
  notes = λ d ns k. k;
  keeps = λ d file delta k. k;
  tells = λ d ends head e of there k. k;
}

-- NO MESSAGE makes a version
pub received_none : (a : Store) (m : Message) (w : Work) → MakesNone w (receive a m w).work
received_none a m w = receive_keeps a w (IsUnmade w) m (message_keeps a w m) refl

-- ---- ticks

walk_goes_none : (b : Store) (file : FileId) (origin birth hops word : ℕ) (w : Work) (o : Option Edge)
    → MakesNone w (walk_along b file origin birth hops word w o)
walk_goes_none b file origin birth hops word w None = refl
walk_goes_none b file origin birth hops word w (Some e) = refl

from_none : (b : Store) (word : ℕ) (w : Work) (o : Option FileId) → MakesNone w (walk_from b word w o)
from_none b word w None = refl
from_none b word w (Some f) =
    let es = edges_of b f in
    walk_goes_none b f (server_of b) (birth_of b f) most_hops (word / length es) w (slice_get es (word % length es))

pub walk_of_none : (b : Store) (word : ℕ) (w : Work) → MakesNone w (walk_of_tick b word w)
walk_of_none b word w =
    let files = with_few_edges b in
    chosen (MakesNone w) (word == 0) w (walk_of b word files w) refl
    (from_none b (word / length files) w (slice_get files (word % length files)))

-- ---- calls

-- a server is removed
invited_none : (b : Store) (f : FileId) (o : Option Edge) (w : Work) → MakesNone w (invite_along b f o w)
invited_none b f None w = refl
invited_none b f (Some e) w = refl

invites_none : (files : List FileId) (b : Store) (w : Work) → MakesNone w (invite_each b files w)
invites_none [] b w = refl
invites_none (f ∷ files) b w =
    invites_none files b (invite_of b f w)
    ∙ chosen (MakesNone w) (invites b f) (invite_along b f (loose_edge b f) w) w (invited_none b f (loose_edge b f) w) refl

module _ (a : Store) (w : Work) (c : Call) (none : (file : FileId) (ranges : RangesValue) → MakesVersion a w c file ranges → ⊥) where
  call_keeps_none : KeepsCalls a w c (IsUnmade w) (IsUnmade w)
  call_keeps_none = record {
    wishes = λ found some k. k;
    asks = λ file wish is some k. k;
    makes_new = λ kind policy path new is k. k;
    makes_place = λ d file place is k. placed_none d.store file place d.work ∙ k;
    makes_flag = λ d file raised is k. flagged_none d.store file (own_next d.store file raised) d.work ∙ k;
    makes_version = λ d file ranges is k. absurd (none file ranges is);
    begins_leave = λ file flag is k. begun_none a (leave_of file flag) w ∙ k;
    fills = λ d id is k. k;
    strikes = λ id dir is k. name_after w.made (update.Place id (dead_at a w.now id dir)) refl ∙ k;
    marks = λ d id dir to is k. ap versions_in (entry_still d.store to (bare_entry id (dead_at a w.now id dir)) d.work).made ∙ k;
    begins_lost = λ id own is away k. k;
    enters = λ view server is found k. (let b = enter a server in invites_none (keys_of b.names.held) b (doubt_all b w) ∙ k);
    leaves = λ d k. k;
  }

  -- NO OTHER CALL does
  pub call_none : MakesNone w (do_call a c w).work
  call_none = call_keeps a w (IsUnmade w) (IsUnmade w) c call_keeps_none refl
