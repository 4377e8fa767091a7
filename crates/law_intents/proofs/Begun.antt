-- A replica begins: its directory's Patches end, and all others are as they were.
use Rattle.std.proofs.Common.{ℕ, ◌≡◌, ◌&&◌, ◌||◌, ◌++◌, Bool, true, false, cond, not, List, [], ◌∷◌, Option, None, Some, is_some, refl, sym, ap, subst, ◌∙◌}
use Rattle.std.specs.List.{list_any}
use Rattle.std.proofs.lemmas.Bool.{and_parts, false≢true}
use Rattle.std.proofs.lemmas.Option.{none-some}
use Rattle.std.proofs.lemmas.List.Elements.{All-filter}
use Rattle.law_frame.specs.pg_run.pg_base.declared.id.FileId.{FileId}
use Rattle.law_frame.specs.pg_run.pg_base.declared.policy.Policy.{Policy}
use Rattle.law_frame.specs.pg_run.pg_base.Id.{file_cmp, is_same_file}
use Rattle.law_frame.proofs.pg_run.pg_base.Maps.{lookup-insert_entry}
use Rattle.law_frame.proofs.pg_run.pg_base.Orders.{file_total, is_same_file-refl, is_same_file-true}
use Rattle.law_frame.specs.pg_run.pg_entries.declared.entry.Entry.{Entry}
use Rattle.law_frame.specs.pg_run.pg_intent.declared.intent.Intent.{Intent}
use Rattle.law_frame.specs.pg_run.pg_intent.declared.intent.Intent.TheVariants as intent
use Rattle.law_frame.specs.pg_run.pg_intent.declared.key.IntentKey.{IntentKey}
use Rattle.law_frame.specs.pg_run.pg_intent.declared.key.IntentKey.TheVariants as intent_key
use Rattle.law_frame.specs.pg_run.pg_intent.Intent.{target_of}
use Rattle.law_frame.specs.pg_run.pg_intent.Intents.{ended, has_key, intent_at}
use Rattle.law_frame.specs.pg_run.pg_intent.Key.{is_same_key}
use Rattle.law_frame.specs.pg_run.pg_names.declared.attributes.Attributes.{Attributes}
use Rattle.law_frame.specs.pg_run.pg_names.Names.{InodeValue, NamesValue, is_held, known, new_held, own_at, own_of, with_joined}
use Rattle.law_frame.proofs.pg_run.pg_names.Lookups.{joined_own, update_frame}
use Rattle.law_frame.specs.pg_run.pg_store.declared.store.Store.{Store}
use Rattle.law_frame.specs.pg_run.pg_store.Beginning.{begin, patch_key, patches_of, put_new, take_patch, take_patches, take_told_in, with_intents}
use Rattle.law_frame.specs.pg_run.pg_store.Store.{is_newer_entry, put_entry, take_entry}
use Rattle.law_frame.specs.pg_run.pg_pieces.Done.{Done, idle}
use Rattle.law_frame.proofs.pg_run.theory_flood_pieces.Choices.{chosen}
use Rattle.law_intents.proofs.Far.{Aims, AreAimed, Far, told_ended}
use Rattle.law_intents.proofs.Goes.{told_at, told_of, update_held}

-- ---- names in which no place changes

record IsAlike (m b : NamesValue) : Type 0 where
  pub server : b.server ≡ m.server
  pub removed : b.removed ≡ m.removed
  pub held : (q : FileId) → is_held b q ≡ is_held m q
  pub own : (q : FileId) → own_at b q ≡ own_at m q

alike_itself : (m : NamesValue) → IsAlike m m
alike_itself m = record { server = refl; removed = refl; held = λ q. refl; own = λ q. refl }

alike_then : (m b c : NamesValue) → IsAlike m b → IsAlike b c → IsAlike m c
alike_then m b c one two = record {
  server = two.server ∙ one.server;
  removed = two.removed ∙ one.removed;
  held = λ q. two.held q ∙ one.held q;
  own = λ q. two.own q ∙ one.own q;
}

entry_alike : (a : Store) (dir : FileId) (e : Entry) → IsAlike a.names (take_entry a dir e).names
entry_alike a dir e =
    let frame = update_frame a.names dir (with_joined e) in
    chosen (λ (b : Store). IsAlike a.names b.names) (is_newer_entry a dir e) (put_entry a dir e) a
    (record {
      server = frame.server;
      removed = frame.removed;
      held = λ q. update_held a.names dir (with_joined e) q;
      own = λ q. joined_own a.names dir e q;
    })
    (alike_itself a.names)

-- ---- Patches are taken

record IsTaken (a : Store) (is : List Intent) (b : Store) : Type 0 where
  pub servers : b.servers ≡ a.servers
  pub names : IsAlike a.names b.names
  pub intents : b.intents ≡ is

told_in : (a : Store) (dir : FileId) (o : Option Intent) → IsTaken a a.intents (take_told_in a dir o)
told_in a dir None = record { servers = refl; names = alike_itself a.names; intents = refl }
told_in a dir (Some (intent.Bye file birth peer peer_birth)) = record { servers = refl; names = alike_itself a.names; intents = refl }
told_in a dir (Some (intent.Seek file target)) = record { servers = refl; names = alike_itself a.names; intents = refl }
told_in a dir (Some (intent.Fill file birth target)) = record { servers = refl; names = alike_itself a.names; intents = refl }
told_in a dir (Some (intent.Patch to e target)) = record {
  servers = chosen (λ (b : Store). b.servers ≡ a.servers) (is_newer_entry a dir e) (put_entry a dir e) a refl refl;
  names = entry_alike a dir e;
  intents = chosen (λ (b : Store). b.intents ≡ a.intents) (is_newer_entry a dir e) (put_entry a dir e) a refl refl;
}
told_in a dir (Some (intent.Confirm to child target)) = record { servers = refl; names = alike_itself a.names; intents = refl }
told_in a dir (Some (intent.Leave file peer peer_birth)) = record { servers = refl; names = alike_itself a.names; intents = refl }

-- those with these keys have ended
record AreTaken (n s : ℕ) (r : List ℕ) (a : Store) (ks : List IntentKey) (b : Store) : Type 0 where
  pub servers : b.servers ≡ a.servers
  pub names : IsAlike a.names b.names
  pub aims : AreAimed n s r a.intents → AreAimed n s r b.intents
  pub told : (dir child : FileId) (e : Entry) → told_at b.intents dir child ≡ Some e
      → (told_at a.intents dir child ≡ Some e) × (list_any (is_same_key (intent_key.Patch dir child)) ks ≡ false)

are_taken : (n s : ℕ) (r : List ℕ) (a : Store) (dir : FileId) (ks : List IntentKey) → AreTaken n s r a ks (take_patches a dir ks)
are_taken n s r a dir [] = record { servers = refl; names = alike_itself a.names; aims = λ k. k; told = λ d c e h. (h, refl) }
are_taken n s r a dir (q ∷ ks) =
    let b = with_intents a (ended a.intents q) in
    let c = take_patch a dir q in
    let one = told_in b dir (intent_at a.intents q) in
    let rest = are_taken n s r c dir ks in
    record {
      servers = rest.servers ∙ one.servers;
      names = alike_then a.names c.names (take_patches c dir ks).names one.names rest.names;
      aims = λ k. rest.aims (subst (AreAimed n s r) (sym one.intents)
          (All-filter (λ (i : Intent). not (has_key q i)) (λ (i : Intent). Aims n s r (target_of i)) a.intents k));
      told = λ d g e h. (let later = rest.told d g e h in
          let here = told_ended a.intents q d g e (sym (ap (λ (is : List Intent). told_at is d g) one.intents) ∙ later.0) in
          (here.0, ap (λ (t : Bool). t || list_any (is_same_key (intent_key.Patch d g)) ks) here.1 ∙ later.1));
    }

-- ---- a Patch that stands is among those of its directory

any_back : (f : IntentKey → Bool) (xs ys : List IntentKey) → list_any f ys ≡ true → list_any f (xs ++ ys) ≡ true
any_back f [] ys h = h
any_back f (x ∷ xs) ys h = by (f x) (any_back f xs ys h)
  where
    by : (t : Bool) → list_any f (xs ++ ys) ≡ true → (t || list_any f (xs ++ ys)) ≡ true
    by true rest = refl
    by false rest = rest

module _ (dir child : FileId) where
  abbrev Q : IntentKey
  Q = intent_key.Patch dir child

  first_by : (t : Bool) (to : FileId) (e : Entry) (more : List IntentKey) → is_same_file to dir ≡ t → t ≡ true → is_same_file child e.child ≡ true
      → list_any (is_same_key Q) (cond t (intent_key.Patch dir e.child ∷ []) [] ++ more) ≡ true
  first_by true to e more here is same =
      ap (λ (t : Bool). (t && is_same_file child e.child) || list_any (is_same_key Q) more) (is_same_file-refl dir)
      ∙ ap (λ (t : Bool). t || list_any (is_same_key Q) more) same
  first_by false to e more here is same = absurd (false≢true is)

  first : (i : Intent) (e : Entry) (more : List IntentKey) → has_key Q i ≡ true → told_of (Some i) ≡ Some e → list_any (is_same_key Q) (patch_key dir i ++ more) ≡ true
  first (intent.Bye file birth peer peer_birth) e more has told = absurd (none-some e told)
  first (intent.Seek file target) e more has told = absurd (none-some e told)
  first (intent.Fill file birth target) e more has told = absurd (none-some e told)
  first (intent.Patch to entry target) e more has told =
      let parts = and_parts (is_same_file dir to) (is_same_file child entry.child) has in
      let turned : is_same_file to dir ≡ true = ap (λ (x : FileId). is_same_file x dir) (sym (is_same_file-true dir to parts.0)) ∙ is_same_file-refl dir in
      first_by (is_same_file to dir) to entry more refl turned parts.1
  first (intent.Confirm to other target) e more has told = absurd (none-some e told)
  first (intent.Leave file peer peer_birth) e more has told = absurd (none-some e told)

  pub among_patches : (is : List Intent) (e : Entry) → told_at is dir child ≡ Some e → list_any (is_same_key Q) (patches_of dir is) ≡ true
  among_patches [] e h = absurd (none-some e h)
  among_patches (i ∷ is) e h = by (has_key Q i) refl (among_patches is e) h
    where
      by : (t : Bool) → has_key Q i ≡ t → (told_at is dir child ≡ Some e → list_any (is_same_key Q) (patches_of dir is) ≡ true) → told_of (cond t (Some i) (intent_at is Q)) ≡ Some e → list_any (is_same_key Q) (patch_key dir i ++ patches_of dir is) ≡ true
      by true has more told = first i e (patches_of dir is) has told
      by false has more told = any_back (is_same_key Q) (patch_key dir i) (patches_of dir is) (more told)

-- ---- THE BEGINNING

held_of : (y : Option InodeValue) (o : Attributes) → own_of y ≡ Some o → is_some y ≡ true
held_of None o h = absurd (none-some o h)
held_of (Some x) o h = refl

module _ (n s : ℕ) (r : List ℕ) (d : Done) (k : Far n s r d) (f : FileId) (birth : ℕ) (policy : Policy) (own : Attributes) (full : Bool) (away : is_held d.store.names f ≡ false) where
  abbrev Before : Store
  Before = d.store

  abbrev Put : Store
  Put = put_new Before f birth policy own full

  abbrev Keys : List IntentKey
  Keys = patches_of f Before.intents

  abbrev Behind : Store
  Behind = take_patches Put f Keys

  took : AreTaken n s r Put Keys Behind
  took = are_taken n s r Put f Keys

  apart_by : (q : FileId) (t : Bool) → is_same_file q f ≡ t → is_held Before.names q ≡ true → t ≡ false
  apart_by q false apart held = refl
  apart_by q true same held =
      absurd (false≢true (sym away ∙ ap (λ (g : FileId). is_held Before.names g) (sym (is_same_file-true q f same)) ∙ held))

  -- what is known of any other
  known_put : (q : FileId) → is_same_file q f ≡ false → known Put.names q ≡ known Before.names q
  known_put q apart =
      lookup-insert_entry file_cmp file_total q f (new_held own full) Before.names.held
      ∙ ap (λ (t : Bool). cond t (Some (new_held own full)) (known Before.names q)) apart

  own_on : (q : FileId) (o : Attributes) → own_at Before.names q ≡ Some o → own_at Behind.names q ≡ Some o
  own_on q o h =
      let apart = apart_by q (is_same_file q f) refl (held_of (known Before.names q) o h) in
      took.names.own q ∙ ap own_of (known_put q apart) ∙ h

  dir_apart : (dir child : FileId) (e : Entry) (t : Bool) → is_same_file dir f ≡ t → told_at Before.intents dir child ≡ Some e
      → list_any (is_same_key (intent_key.Patch dir child)) Keys ≡ false → t ≡ false
  dir_apart dir child e false apart told none = refl
  dir_apart dir child e true same told none =
      let is : dir ≡ f = is_same_file-true dir f same in
      let P : FileId → Type 0 = λ g. told_at Before.intents g child ≡ Some e → list_any (is_same_key (intent_key.Patch g child)) Keys ≡ true in
      let some = subst P (sym is) (among_patches f child Before.intents e) told in
      absurd (false≢true (sym none ∙ some))

  pub far_begin : Far n s r (idle (begin d.store f birth policy own full) d.work)
  far_begin = record {
    servers = took.servers ∙ k.servers;
    server = took.names.server ∙ k.server;
    removed = took.names.removed ∙ k.removed;
    from = k.from;
    aims = took.aims k.aims;
    slots = λ x h. (let was = k.slots x h in (was.0, (was.1.0, own_on x.child was.1.0 was.1.1)));
    patches = λ dir child e h.
        (let told = took.told dir child e h in
        let was = k.patches dir child e told.0 in
        let apart = dir_apart dir child e (is_same_file dir f) refl told.0 told.1 in
        record {
          away = took.names.held dir ∙ ap (λ (o : Option InodeValue). is_some o) (known_put dir apart) ∙ was.away;
          inner = was.inner;
          own = was.own;
          held = own_on child was.own was.held;
          of = was.of;
          place = was.place;
        });
  }
