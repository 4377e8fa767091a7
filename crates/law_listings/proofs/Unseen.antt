-- Changes that directories do not see: edges, flags, versions, birth numbers, whom an intention
-- asks.
use Rattle.std.proofs.Common.{ℕ, ◌≡◌, ◌||◌, Bool, true, false, cond, List, [], ◌∷◌, Option, None, Some, is_some, refl, sym, ap, ◌∙◌, inl, inr, ◌⊎◌}
use Rattle.std.specs.Option.{option_map}
use Rattle.std.specs.Prelude.{nat_lt}
use Rattle.pg_run.specs.pg_base.declared.id.FileId.{FileId}
use Rattle.pg_run.specs.pg_base.Id.{is_same_file}
use Rattle.pg_run.specs.pg_base.Version.{VersionValue}
use Rattle.pg_run.specs.pg_edges.declared.key.Key.TheVariants as key
use Rattle.pg_run.proofs.pg_house.Truths.{bool_cases}
use Rattle.pg_run.specs.pg_intent.declared.intent.Intent.{Intent}
use Rattle.pg_run.specs.pg_intent.declared.intent.Intent.TheVariants as intent
use Rattle.pg_run.specs.pg_intent.declared.key.IntentKey.{IntentKey}
use Rattle.pg_run.specs.pg_intent.declared.key.IntentKey.TheVariants as intent_key
use Rattle.pg_run.specs.pg_intent.Intent.{aimed_at}
use Rattle.pg_run.specs.pg_intent.Intents.{aimed, intent_at, stands}
use Rattle.pg_run.specs.pg_intent.Key.{is_same_key}
use Rattle.pg_run.proofs.pg_intent.Found.{aimed_found, stands_is}
use Rattle.pg_run.specs.pg_msg.declared.message.Ends.{Ends}
use Rattle.pg_run.specs.pg_msg.declared.update.Update.TheVariants as update
use Rattle.pg_run.specs.pg_msg.declared.work.Work.{Work}
use Rattle.pg_run.specs.pg_msg.Work.{with_made}
use Rattle.pg_run.specs.pg_names.declared.attributes.Attributes.{Attributes}
use Rattle.pg_run.specs.pg_names.Names.{join_flag, own_at, with_flag}
use Rattle.pg_run.specs.pg_names.Names as names
use Rattle.pg_run.proofs.pg_names.Holding.{fill_cells, fill_own}
use Rattle.pg_run.proofs.pg_names.Lookups.{flag_cell, flag_other, flag_same, known_absent, update_frame}
use Rattle.pg_run.proofs.pg_base.Orders.{is_same_file-true}
use Rattle.pg_run.proofs.theory_flood_pieces.Choices.{chosen}
use Rattle.pg_run.specs.pg_register.declared.flag.Flag.{Flag}
use Rattle.theory_listing_house.specs.Listing.{cell_place, own_place}
use Rattle.pg_run.specs.pg_store.declared.store.Store.{Store}
use Rattle.pg_run.specs.pg_store.Beginning.{with_intents}
use Rattle.pg_run.specs.pg_store.Births.{fill_at, has_birth, is_pending, wish_at, with_wishes}
use Rattle.pg_run.specs.pg_store.Links.{is_linked, is_new_link, knows_later, link, put_link, unlink}
use Rattle.pg_run.specs.pg_store.Seen.{server_of}
use Rattle.pg_run.specs.pg_store.Store.{is_new_version, is_newer_flag, put_flag, put_version, take_flag, take_version, with_names}
use Rattle.pg_run.specs.pg_store.Wishes.{aim_wish}
use Rattle.pg_run.specs.pg_pieces.declared.accepting.EdgeUse.{EdgeUse}
use Rattle.pg_run.specs.pg_pieces.declared.accepting.EdgeUse.TheVariants as manner
use Rattle.pg_run.specs.pg_pieces.Accepting.{accept, is_accepted, is_answer, link_peer, met, with_gone, with_link}
use Rattle.pg_run.specs.pg_pieces.Done.{Done, idle}
use Rattle.pg_run.specs.pg_pieces.Making.{lower_flag, own_next, raise_flag}
use Rattle.pg_run.specs.pg_pieces.Taking.{take_flag_noted, take_flags_noted}
use Rattle.pg_run.specs.pg_pieces.Golds.{is_gold}
use Rattle.pg_run.specs.pg_calls.Demoting.{lowered}
use Rattle.pg_run.specs.pg_repair.Filling.{few_golds, fill, invite, invited, is_bronze, live_golds, raise_if_few}
use Rattle.pg_run.specs.pg_repair.Granting.{aim_fill, fill_asks, turn_fill, turn_wish, wish_asks}
use Rattle.law_listings.specs.Letters.{patch_place}
use Rattle.law_listings.proofs.PlacesAlone.{of_places}
use Rattle.law_listings.proofs.Alike.{Alike, Alike-refl, Alike-trans, alike_by}
use Rattle.law_listings.proofs.Placed.{news_left}

-- ---- edges

pub link_alike : (a : Store) (f : FileId) (peer birth : ℕ) → Alike a (link a f peer birth)
link_alike a f peer birth =
    chosen (λ (b : Store). Alike a b) (is_new_link a f peer birth) (put_link a f peer birth) a (alike_by a (put_link a f peer birth) refl refl) (Alike-refl a)

pub unlink_alike : (a : Store) (f : FileId) (peer birth : ℕ) → Alike a (unlink a f peer birth)
unlink_alike a f peer birth = chosen (λ (b : Store). Alike a b) (is_linked a f peer birth) _ a (alike_by a _ refl refl) (Alike-refl a)

met_alike : (a : Store) (ends : Ends) (way : EdgeUse) (work : Work) → Alike a (met a ends way work).store
met_alike a ends manner.Makes work = link_alike a ends.file work.from ends.sender
met_alike a ends manner.Needs work = Alike-refl a
met_alike a ends manner.Answers work = Alike-refl a

pub accept_alike : (a : Store) (ends : Ends) (way : EdgeUse) (work : Work) → Alike a (accept a ends way work).store
accept_alike a ends way work =
    let P : Done → Type 0 = λ d. Alike a d.store in
    chosen P (has_birth a ends.file ends.receiver) _ (idle a (with_gone a ends way work))
    (chosen P (knows_later a ends.file work.from ends.sender) (idle a work) (met a ends way work) (Alike-refl a) (met_alike a ends way work)) (Alike-refl a)

-- it is the same server
met_server : (a : Store) (ends : Ends) (way : EdgeUse) (work : Work) → server_of (met a ends way work).store ≡ server_of a
met_server a ends manner.Makes work =
    chosen (λ (b : Store). server_of b ≡ server_of a) (is_new_link a ends.file work.from ends.sender) (put_link a ends.file work.from ends.sender) a refl refl
met_server a ends manner.Needs work = refl
met_server a ends manner.Answers work = refl

pub accept_server : (a : Store) (ends : Ends) (way : EdgeUse) (work : Work) → server_of (accept a ends way work).store ≡ server_of a
accept_server a ends way work =
    let P : Done → Type 0 = λ d. server_of d.store ≡ server_of a in
    chosen P (has_birth a ends.file ends.receiver) _ (idle a (with_gone a ends way work))
    (chosen P (knows_later a ends.file work.from ends.sender) (idle a work) (met a ends way work) refl (met_server a ends way work)) refl

-- ---- flags and versions

module _ (a : Store) (f : FileId) (flag : Flag) where
  flag_by : (g : FileId) (o : Option Attributes) → own_at a.names f ≡ o → (is_same_file f g ≡ true) ⊎ (is_same_file f g ≡ false)
      → own_place (own_at (join_flag a.names f flag) g) ≡ of_places.own a g
  flag_by g None e cases = ap (λ n. own_place (own_at n g)) (known_absent a.names f (with_flag flag) e)
  flag_by g (Some b) e (inr other) = ap own_place (flag_other a.names f flag g other)
  flag_by g (Some b) e (inl same) =
      let at : f ≡ g = is_same_file-true f g same in
      sym (ap (λ x. own_place (own_at (join_flag a.names f flag) x)) at) ∙ ap own_place (flag_same a.names f flag b e) ∙ sym (ap own_place e) ∙ ap (of_places.own a) at

  put_flag_alike : Alike a (put_flag a f flag)
  put_flag_alike = record {
    own = λ g. flag_by g (own_at a.names f) refl (bool_cases (is_same_file f g));
    cells = λ d c. ap cell_place (flag_cell a.names f flag d c);
    patches = λ d c. refl;
    confirms = λ d c h. h;
    removed = (update_frame a.names f (with_flag flag)).removed;
  }

  pub flag_alike : Alike a (take_flag a f flag)
  flag_alike = chosen (λ (b : Store). Alike a b) (is_newer_flag a f flag) (put_flag a f flag) a put_flag_alike (Alike-refl a)

pub flags_alike : (flags : List Flag) (a : Store) (f : FileId) (work : Work) → Alike a (take_flags_noted a f flags work).store
flags_alike [] a f work = Alike-refl a
flags_alike (flag ∷ flags) a f work =
    Alike-trans (flag_alike a f flag) (flags_alike flags (take_flag a f flag) f (take_flag_noted a f flag work).work)

pub flags_left : (flags : List Flag) (a : Store) (f : FileId) (work : Work) → (take_flags_noted a f flags work).work.left ≡ work.left
flags_left [] a f work = refl
flags_left (flag ∷ flags) a f work =
    flags_left flags (take_flag a f flag) f (take_flag_noted a f flag work).work ∙ news_left (is_newer_flag a f flag) work f (key.Flag flag.server)

pub raised_alike : (a : Store) (f : FileId) (work : Work) → Alike a (raise_flag a f work).store
raised_alike a f work = flag_alike a f (own_next a f true)

pub lowered_alike : (a : Store) (f : FileId) (work : Work) → Alike a (lowered a f work).store
lowered_alike a f work =
    chosen (λ (d : Done). Alike a d.store) (is_gold a f) (lower_flag a f work) (idle a work) (flag_alike a f (own_next a f false)) (Alike-refl a)

pub raised_left : (a : Store) (f : FileId) (work : Work) → (raise_flag a f work).work.left ≡ work.left
raised_left a f work =
    let flag = own_next a f true in
    news_left (is_newer_flag a f flag) (with_made work (update.Flag f flag)) f (key.Flag flag.server)

-- a greater time is known
pub later_alike : (a b : Store) (time : ℕ) → b.names ≡ names.raise a.names time → b.intents ≡ a.intents → Alike a b
later_alike a b time same intents = record {
  own = λ f. ap (λ n. own_place (own_at n f)) same;
  cells = λ d c. ap (λ n. cell_place (names.cell_at n d c)) same;
  patches = λ d c. ap (λ is. patch_place (intent_at is (intent_key.Patch d c))) intents;
  confirms = λ d c h. ap (λ is. stands is (intent_key.Confirm d c)) intents ∙ h;
  removed = ap (λ n. n.removed) same;
}

pub version_alike : (a : Store) (f : FileId) (v : VersionValue) → Alike a (take_version a f v)
version_alike a f v =
    chosen (λ (b : Store). Alike a b) (is_new_version a f v) (put_version a f v) a (later_alike a (put_version a f v) v.head.stamp.time refl refl) (Alike-refl a)

-- ---- filling, and being full

fill_names_alike : (a : Store) (f : FileId) → Alike a (with_names a (names.fill a.names f))
fill_names_alike a f = record {
  own = λ g. ap own_place (fill_own a.names f g);
  cells = λ d c. ap cell_place (fill_cells a.names f d c);
  patches = λ d c. refl;
  confirms = λ d c h. h;
  removed = (update_frame a.names f names.filled).removed;
}

few_alike : (a : Store) (f : FileId) (work : Work) → Alike a (raise_if_few a f work).store
few_alike a f work =
    chosen (λ (d : Done). Alike a d.store) (nat_lt (live_golds a f) few_golds) (raise_flag a f work) (idle a work) (raised_alike a f work) (Alike-refl a)

pub fill_alike : (a : Store) (f : FileId) (work : Work) → Alike a (fill a f work).store
fill_alike a f work = Alike-trans (fill_names_alike a f) (few_alike (with_names a (names.fill a.names f)) f work)

pub fill_left : (a : Store) (f : FileId) (work : Work) → (fill a f work).work.left ≡ work.left
fill_left a f work =
    let b = with_names a (names.fill a.names f) in
    chosen (λ (d : Done). d.work.left ≡ work.left) (nat_lt (live_golds b f) few_golds) (raise_flag b f work) (idle b work) (raised_left b f work) refl

-- one that is invited to be gold
invited_alike : (ends : Ends) (d : Done) → Alike d.store (invited ends d).store
invited_alike ends d =
    chosen (λ (e : Done). Alike d.store e.store) (is_bronze d.store ends.file) (raise_if_few d.store ends.file d.work) d
    (few_alike d.store ends.file d.work) (Alike-refl d.store)

pub invite_alike : (a : Store) (ends : Ends) (work : Work) → Alike a (invite a ends work).store
invite_alike a ends work =
    let met = accept a ends manner.Needs work in
    let k = accept_alike a ends manner.Needs work in
    chosen (λ (d : Done). Alike a d.store) (is_accepted a work.from manner.Needs ends) (invited ends met) met (Alike-trans k (invited_alike ends met)) k

-- ---- whom an intention asks

patch_aimed : (to : ℕ) (i : Intent) → patch_place (Some (aimed_at to i)) ≡ patch_place (Some i)
patch_aimed to (intent.Patch d e t) = refl
patch_aimed to (intent.Bye f b p c) = refl
patch_aimed to (intent.Seek f t) = refl
patch_aimed to (intent.Fill f b t) = refl
patch_aimed to (intent.Confirm d c t) = refl
patch_aimed to (intent.Leave f p b) = refl

pub patch_by : (to : ℕ) (o : Option Intent) (t : Bool) → patch_place (cond t (option_map (aimed_at to) o) o) ≡ patch_place o
patch_by to o false = refl
patch_by to None true = refl
patch_by to (Some i) true = patch_aimed to i

pub some_by : (to : ℕ) (o : Option Intent) (t : Bool) → is_some (cond t (option_map (aimed_at to) o) o) ≡ is_some o
some_by to o false = refl
some_by to None true = refl
some_by to (Some i) true = refl

pub aimed_alike : (a : Store) (k : IntentKey) (to : ℕ) → Alike a (with_intents a (aimed a.intents k to))
aimed_alike a k to = record {
  own = λ f. refl;
  cells = λ d c. refl;
  patches = λ d c. (let q = intent_key.Patch d c in ap patch_place (aimed_found a.intents k to q) ∙ patch_by to (intent_at a.intents q) (is_same_key q k));
  confirms = λ d c h. (
      let q = intent_key.Confirm d c in
      stands_is (aimed a.intents k to) q ∙ ap is_some (aimed_found a.intents k to q) ∙ some_by to (intent_at a.intents q) (is_same_key q k) ∙ sym (stands_is a.intents q) ∙ h);
  removed = refl;
}

pub turn_wish_alike : (a : Store) (f : FileId) (birth from next : ℕ) → Alike a (turn_wish a f birth from next)
turn_wish_alike a f birth from next =
    let b = with_wishes a (aim_wish a.wishes f next) in
    chosen (λ (x : Store). Alike a x) (wish_asks (wish_at a f) birth from) b a (alike_by a b refl refl) (Alike-refl a)

pub turn_fill_alike : (a : Store) (f : FileId) (birth from next : ℕ) → Alike a (turn_fill a f birth from next)
turn_fill_alike a f birth from next =
    chosen (λ (x : Store). Alike a x) (fill_asks (fill_at a f) birth from) (aim_fill a f next) a (aimed_alike a (intent_key.Fill f) next) (Alike-refl a)

-- ---- what was noted stays

linked_left : (t : Bool) (work : Work) (f : FileId) (peer : ℕ) → (with_link t work f peer).left ≡ work.left
linked_left true work f peer = refl
linked_left false work f peer = refl

pub link_left : (a : Store) (f : FileId) (peer birth : ℕ) (work : Work) → (link_peer a f peer birth work).work.left ≡ work.left
link_left a f peer birth work = linked_left (is_new_link a f peer birth) work f peer

met_left : (a : Store) (ends : Ends) (way : EdgeUse) (work : Work) → (met a ends way work).work.left ≡ work.left
met_left a ends manner.Makes work = link_left a ends.file work.from ends.sender work
met_left a ends manner.Needs work = refl
met_left a ends manner.Answers work = refl

gone_left : (a : Store) (ends : Ends) (way : EdgeUse) (work : Work) → (with_gone a ends way work).left ≡ work.left
gone_left a ends way work =
    chosen (λ (w : Work). w.left ≡ work.left) (is_answer way || is_pending a ends.file ends.receiver) work _ refl refl

pub accept_left : (a : Store) (ends : Ends) (way : EdgeUse) (work : Work) → (accept a ends way work).work.left ≡ work.left
accept_left a ends way work =
    let P : Done → Type 0 = λ d. d.work.left ≡ work.left in
    chosen P (has_birth a ends.file ends.receiver) _ (idle a (with_gone a ends way work))
    (chosen P (knows_later a ends.file work.from ends.sender) (idle a work) (met a ends way work) refl (met_left a ends way work)) (gone_left a ends way work)
