-- The walks, tried on what no piece changes: whom the server answers.
use Rattle.std.proofs.Common.{◌≡◌, not, List, [], ◌∷◌, Option, None, Some, refl, ◌∙◌}
use Rattle.std.specs.Map.{keys_of}
use Rattle.pg_run.specs.pg_base.declared.id.FileId.{FileId}
use Rattle.pg_run.specs.pg_call.declared.call.Call.{Call}
use Rattle.pg_run.specs.pg_calls.Dropping.{leave_of}
use Rattle.pg_run.specs.pg_calls.Forgetting.{bare_entry, dead_at}
use Rattle.pg_run.specs.pg_calls.GivingUp.{doubt_all}
use Rattle.pg_run.specs.pg_edges.declared.edge.Edge.{Edge}
use Rattle.pg_run.specs.pg_intent.declared.intent.Intent.{Intent}
use Rattle.pg_run.specs.pg_intent.declared.intent.Intent.TheVariants as intent
use Rattle.pg_run.specs.pg_intent.Intent.{key_of}
use Rattle.pg_run.specs.pg_intent.Intents.{stands}
use Rattle.pg_run.specs.pg_intentions.Confirms.{confirm_of}
use Rattle.pg_run.specs.pg_intentions.Fills.{fill_of, with_fill_birth}
use Rattle.pg_run.specs.pg_intentions.Inviting.{invite_along, invite_each, invite_of, invites, loose_edge}
use Rattle.pg_run.specs.pg_intentions.Patches.{patch_of}
use Rattle.pg_run.specs.pg_intentions.Seeks.{seek_target}
use Rattle.pg_run.specs.pg_msg.declared.message.Message.{Message}
use Rattle.pg_run.specs.pg_msg.declared.update.Update.TheVariants as update
use Rattle.pg_run.specs.pg_msg.declared.work.Work.{Work}
use Rattle.pg_run.specs.pg_msg.Work.{with_made}
use Rattle.pg_run.specs.pg_pieces.Done.{Done, idle}
use Rattle.pg_run.specs.pg_pieces.Intending.{begin_intent}
use Rattle.pg_run.specs.pg_pieces.Making.{own_next}
use Rattle.pg_run.specs.pg_store.declared.store.Store.{Store}
use Rattle.pg_run.specs.pg_store.Views.{enter}
use Rattle.pg_run.proofs.theory_flood_pieces.Choices.{chosen}
use Rattle.pg_run.proofs.Still.{begun_still, entry_still, flag_still, place_still}
use Rattle.law_frame.specs.Askers.{CallsKeepAskers, IntentionsKeepAskers, MessagesKeepAskers}
use Rattle.law_frame.proofs.Called.{call_keeps}
use Rattle.law_frame.proofs.Ended.{intents_keep}
use Rattle.law_frame.proofs.Keeps.{Keeps}
use Rattle.law_frame.proofs.KeepsCalls.{KeepsCalls}
use Rattle.law_frame.proofs.Received.{received}

-- ---- messages

abbrev Any : Done → Type 0
Any d = Unit {0}

any_keeps : (a : Store) (w : Work) (m : Message) → Keeps a w m Any
any_keeps a w m = record {
  cell_place = λ d ends tag p is here k. tt;
  cell_flag = λ d ends tag g is here k. tt;
  cell_entry = λ d ends tag e sure is dir here k. tt;
  version = λ d file v is k. tt;
  told_place = λ d dir e is held other k. tt;
  told_flag = λ d dir e g is held among k. tt;
  place_is = λ d dir e is held k. tt;
  tell = λ d dir e is held k. tt;
  links = λ d file birth is same k. tt;
  meets = λ d ends origin birth hops word is here k. tt;
  unlinks = λ d file birth is same k. tt;
  acknowledges = λ d ends q tag is same k. tt;
  begins = λ ends g is pending k. tt;
  fills = λ ends is here filling k. tt;
  raises = λ d ends is here few k. tt;
  goes = λ ends stamp is may k. tt;
  says_bye = λ d ends stamp e is may among k. tt;
  ends_intent = λ d q is k. tt;
  turns_intent = λ d q to is k. tt;
  asks_granter = λ d ends g is same k. tt;
  turns_wish = λ d file to is k. tt;
  answers = λ d r of same k. tt;
  tells_origin = λ d ends origin birth hops word is here k. tt;
  passes_on = λ ends origin birth hops word left rest i e is here at k. tt;
  notes = λ d ns k. tt;
  keeps = λ d file x k. tt;
  tells = λ d ends head e of there k. tt;
}

pub messages_keep_askers : MessagesKeepAskers
messages_keep_askers a m w = (received a w Any m (any_keeps a w m) (tt, refl)).1

-- ---- calls

invited : (b : Store) (file : FileId) (o : Option Edge) (w : Work)
    → (invite_along b file o w).from ≡ w.from
invited b file None w = refl
invited b file (Some e) w = refl

each_invited : (files : List FileId) (b : Store) (w : Work) → (invite_each b files w).from ≡ w.from
each_invited [] b w = refl
each_invited (file ∷ files) b w =
    each_invited files b (invite_of b file w)
    ∙ chosen (λ (v : Work). v.from ≡ w.from) (invites b file)
    (invite_along b file (loose_edge b file) w) w (invited b file (loose_edge b file) w) refl

begun : (d : Done) (i : Intent) → (begin_intent d.store i d.work).work.from ≡ d.work.from
begun d i = (begun_still (not (stands d.store.intents (key_of i))) d.work (key_of i)).mail.from

module _ (a : Store) (w : Work) where
  abbrev Same : Done → Type 0
  Same d = d.work.from ≡ w.from

  same_keeps : (c : Call) → KeepsCalls a w c Same Same
  same_keeps c = record {
    wishes = λ found some k. k;
    asks = λ file wish is some k. k;
    makes_new = λ kind policy path new is k. k;
    makes_place = λ d file place is k.
        (place_still d.store file place (with_made d.work (update.Place file place))).mail.from ∙ k;
    makes_flag = λ d file raised is k. (
        let flag = own_next d.store file raised in
        (flag_still d.store file flag (with_made d.work (update.Flag file flag))).mail.from ∙ k);
    makes_version = λ d file ranges is k. k;
    begins_leave = λ file flag is k. begun (idle a w) (leave_of file flag) ∙ k;
    fills = λ d id is k. k;
    strikes = λ id dir is k. k;
    marks = λ d id dir to is k.
        (entry_still d.store to (bare_entry id (dead_at a w.now id dir)) d.work).mail.from ∙ k;
    begins_lost = λ id own is away k. k;
    enters = λ view server is found k. (
        let b = enter a server in
        each_invited (keys_of b.names.held) b (doubt_all b w) ∙ k);
    leaves = λ d k. k;
  }

pub calls_keep_askers : CallsKeepAskers
calls_keep_askers a c w = call_keeps a w (Same a w) (Same a w) c (same_keeps a w c) refl

-- ---- intentions

pub intentions_keep_askers : IntentionsKeepAskers
intentions_keep_askers done =
    intents_keep done (λ (d : Done). d.work.from ≡ done.work.from) (record {
      ends = λ k. k;
      patches = λ d slot away k. begun d (patch_of d.store slot d.work) ∙ k;
      fills = λ d file none k. (
          let b = idle (with_fill_birth d.store file) d.work in
          begun b (fill_of d.store file d.work) ∙ k);
      seeks = λ d file none k. begun d (intent.Seek file (seek_target d.store file)) ∙ k;
      aims_seek = λ d file k. k;
      confirms = λ d slot doubted k. begun d (confirm_of d.store slot) ∙ k;
    }) refl
