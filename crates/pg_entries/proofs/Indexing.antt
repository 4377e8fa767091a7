-- The index of names behind a change.
use Rattle.std.proofs.Common.{ℕ, ◌≡◌, ◌⊎◌, inl, inr, Bool, true, false, cond, ◌||◌, ◌&&◌, not, Option, None, Some, List, [], ◌∷◌, refl, sym, ap, subst, ◌∙◌}
use Rattle.std.specs.Option.{IsSome}
use Rattle.std.specs.List.{All}
use Rattle.std.specs.Cmp.{eq_by_cmp_equiv}
use Rattle.std.specs.Map.{set_value}
use Rattle.std.specs.BTreeMap.{is_at}
use Rattle.std.proofs.lemmas.Bool.{and_parts}
use Rattle.std.proofs.lemmas.Map.{lookup-set_value}
use Rattle.pg_base.specs.declared.id.FileId.{FileId}
use Rattle.pg_base.specs.Id.{Fits, file_cmp, is_same_file}
use Rattle.pg_base.proofs.Orders.{file_total, is_same_file-refl, is_same_file-true}
use Rattle.pg_index.specs.Ids.{ListsValue, has}
use Rattle.pg_index.proofs.Members.{same_sym}
use Rattle.pg_entries.specs.declared.entry.Entry.{Entry}
use Rattle.pg_entries.specs.Entry.{entry_of, is_listed, put_entry}
use Rattle.pg_entries.specs.Names.{same_name}
use Rattle.pg_entries.specs.Shown.{is_rival}
use Rattle.pg_entries.specs.Slots.{AreFit, AreNamed, is_left, is_slot, slot_in, slot_of}
use Rattle.pg_entries.proofs.Claims.{same_name-true}
use Rattle.pg_entries.proofs.Found.{put_is_found}
use Rattle.pg_entries.proofs.Joining.{Attributes, own_insert, own_set}

-- the lists have one more, where there is a slot for it
abbrev pub Adds : Option FileId → FileId → ListsValue → ListsValue → Type 0
Adds slot file old new = (k q : FileId) → has new k q ≡ ((is_slot slot k && is_same_file file q) || has old k q)

-- a child is off the slot that it had
abbrev pub Leaves : Option FileId → Option FileId → FileId → ListsValue → ListsValue → Type 0
Leaves held next child old new = (k q : FileId) → has new k q ≡ (not (is_left held next k && is_same_file child q) && has old k q)

-- one entry is found where its child is looked up, and all others as before
abbrev pub Takes : FileId → Entry → List (FileId × Entry) → List (FileId × Entry) → Type 0
Takes child e old new = (q : FileId) → entry_of new q ≡ cond (is_same_file q child) (Some e) (entry_of old q)

or_true : (b : Bool) → (b || true) ≡ true
or_true true = refl
or_true false = refl

some_is : {X : Type 0} (a b : X) → Some a ≡ Some b → a ≡ b
some_is a b e = cc

none_is : {X : Type 0} (a : X) (P : Type 0) → None ≡ Some a → P
none_is a P e = cc

-- the slot that an entry has where its place is live
abbrev pub own_slot : Entry → FileId
own_slot e = slot_of e.place.parent e.place.name

live_slot : (e : Entry) → e.place.live ≡ true → slot_in e.place ≡ Some (own_slot e)
live_slot e live = ap (λ b. cond b (Some (own_slot e)) None) live

-- who has a name in a directory is at its slot
pub rival_listed : (es : List (FileId × Entry)) (named : ListsValue) (dir : FileId) (name : List ℕ) (child : FileId) (e : Entry) → AreNamed es named → entry_of es child ≡ Some e → is_rival dir name e ≡ true → has named (slot_of dir name) child ≡ true
rival_listed es named dir name child e all there rival =
    let has_name = and_parts (is_listed dir e) (same_name e.place.name name) rival in
    let stands = and_parts e.place.live (is_same_file e.place.parent dir) has_name.0 in
    let one : dir ≡ e.place.parent = sym (is_same_file-true e.place.parent dir stands.1) in
    let same : name ≡ e.place.name = sym (same_name-true e.place.name name has_name.1) in
    ap (λ d. has named (slot_of d name) child) one ∙ ap (λ n. has named (slot_of e.place.parent n) child) same ∙ all child e there stands.0

-- ---- listed at more slots

pub named_more : (es : List (FileId × Entry)) (old new : ListsValue) (slot : Option FileId) (file : FileId) → AreNamed es old → Adds slot file old new → AreNamed es new
named_more es old new slot file named more child e there live =
    more (own_slot e) child
    ∙ ap (λ b. (is_slot slot (own_slot e) && is_same_file file child) || b) (named child e there live) ∙ or_true (is_slot slot (own_slot e) && is_same_file file child)

pub added : (old new : ListsValue) (slot : Option FileId) (key file : FileId) → Adds slot file old new → slot ≡ Some key → has new key file ≡ true
added old new slot key file more is =
    more key file ∙ ap (λ o. (is_slot o key && is_same_file file file) || has old key file) is
    ∙ ap (λ b. (b && is_same_file file file) || has old key file) (is_same_file-refl key) ∙ ap (λ b. b || has old key file) (is_same_file-refl file)

-- an entry of which this is the slot has its child there
pub added_own : (old new : ListsValue) (slot : Option FileId) (child : FileId) (e : Entry) → Adds slot child old new → slot ≡ slot_in e.place → e.place.live ≡ true → has new (own_slot e) child ≡ true
added_own old new slot child e more is live = added old new slot (own_slot e) child more (is ∙ live_slot e live)

-- ---- an entry is taken

taken_named_by : (old new : List (FileId × Entry)) (named : ListsValue) (child : FileId) (e : Entry) (q : FileId) (x : Entry) (t : Bool) → is_same_file q child ≡ t → AreNamed old named → (e.place.live ≡ true → has named (own_slot e) child ≡ true)
    → cond t (Some e) (entry_of old q) ≡ Some x → x.place.live ≡ true → has named (own_slot x) q ≡ true
taken_named_by old new named child e q x true same all at there live =
    let one : e ≡ x = some_is e x there in
    ap (λ (y : Entry). has named (own_slot y) q) (sym one) ∙ ap (λ p. has named (own_slot e) p) (is_same_file-true q child same) ∙ at (ap (λ (y : Entry). y.place.live) one ∙ live)
taken_named_by old new named child e q x false same all at there live = all q x there live

pub taken_named : (old new : List (FileId × Entry)) (named : ListsValue) (child : FileId) (e : Entry) → AreNamed old named → (e.place.live ≡ true → has named (own_slot e) child ≡ true) → Takes child e old new → AreNamed new named
taken_named old new named child e all at takes q x there live =
    taken_named_by old new named child e q x (is_same_file q child) refl all at (sym (takes q) ∙ there) live

taken_fit_by : (old : List (FileId × Entry)) (child : FileId) (e : Entry) (q : FileId) (x : Entry) (t : Bool) → is_same_file q child ≡ t → AreFit old → Fits child → cond t (Some e) (entry_of old q) ≡ Some x → Fits q
taken_fit_by old child e q x true same all fits there = subst Fits (sym (is_same_file-true q child same)) fits
taken_fit_by old child e q x false same all fits there = all q x there

pub taken_fit : (old new : List (FileId × Entry)) (child : FileId) (e : Entry) → AreFit old → Fits child → Takes child e old new → AreFit new
taken_fit old new child e all fits takes q x there = taken_fit_by old child e q x (is_same_file q child) refl all fits (sym (takes q) ∙ there)

pub takes_put : (es : List (FileId × Entry)) (e : Entry) → Takes e.child e es (put_entry es e)
takes_put es e q = put_is_found es e q

alike : (d x y : FileId) → is_same_file d x ≡ true → is_same_file d y ≡ is_same_file x y
alike d x y h = ap (λ (q : FileId). is_same_file q y) (is_same_file-true d x h)

pub takes_set : (es : List (FileId × Entry)) (child : FileId) (held w : Entry) → entry_of es child ≡ Some held → Takes child w es (set_value (is_at (file_cmp child)) es w)
takes_set es child held w there q =
    lookup-set_value (eq_by_cmp_equiv file_total) (is_at (file_cmp child)) (alike child) q w es (subst IsSome (sym there) refl)
    ∙ ap (λ b. cond b (Some w) (entry_of es q)) (same_sym child q)

-- ---- a child leaves a slot

and_not : (b : Bool) → (b && not b) ≡ false
and_not true = refl
and_not false = refl

and_none : (b : Bool) → (b && false) ≡ false
and_none true = refl
and_none false = refl

-- it has not left the slot that it has
not_left : (held : Option FileId) (slot : FileId) → is_left held (Some slot) slot ≡ false
not_left None slot = refl
not_left (Some held) slot = ap (λ b. is_same_file held slot && not b) (same_sym slot held) ∙ and_not (is_same_file held slot)

left_named_by : (es : List (FileId × Entry)) (held next : Option FileId) (child : FileId) (e : Entry) (q : FileId) (x : Entry) (t : Bool) → is_same_file child q ≡ t
    → entry_of es child ≡ Some e → next ≡ slot_in e.place → entry_of es q ≡ Some x → x.place.live ≡ true → not (is_left held next (own_slot x) && t) ≡ true
left_named_by es held next child e q x true same there slot found live =
    let one : e ≡ x = some_is e x (sym there ∙ ap (entry_of es) (is_same_file-true child q same) ∙ found) in
    let at : next ≡ Some (own_slot x) = slot ∙ ap (λ (y : Entry). slot_in y.place) one ∙ live_slot x live in
    ap (λ o. not (is_left held o (own_slot x) && true)) at ∙ ap (λ b. not (b && true)) (not_left held (own_slot x))
left_named_by es held next child e q x false same there slot found live = ap not (and_none (is_left held next (own_slot x)))

pub left_named : (es : List (FileId × Entry)) (old new : ListsValue) (held next : Option FileId) (child : FileId) (e : Entry) → AreNamed es old → Leaves held next child old new → entry_of es child ≡ Some e → next ≡ slot_in e.place → AreNamed es new
left_named es old new held next child e all leaves there slot q x found live =
    leaves (own_slot x) q
    ∙ ap (λ b. b && has old (own_slot x) q) (left_named_by es held next child e q x (is_same_file child q) refl there slot found live)
    ∙ all q x found live

-- ---- the index of all entries

-- each child is listed, or is still to come
abbrev pub NamesSome : List (FileId × Entry) → ListsValue → List (FileId × Entry) → Type 0
NamesSome es named left = (child : FileId) (e : Entry) → entry_of es child ≡ Some e → e.place.live ≡ true → (has named (own_slot e) child ≡ true) ⊎ (entry_of left child ≡ Some e)

pub names_from : (es : List (FileId × Entry)) (named : ListsValue) → NamesSome es named es
names_from es named child e there live = inr there

passed_by : (old new : ListsValue) (x : FileId × Entry) (left : List (FileId × Entry)) (child : FileId) (e : Entry) (t : Bool) → is_same_file child x.0 ≡ t → Adds (slot_in x.1.place) x.0 old new → e.place.live ≡ true
    → (has old (own_slot e) child ≡ true) ⊎ (cond t (Some x.1) (entry_of left child) ≡ Some e) → (has new (own_slot e) child ≡ true) ⊎ (entry_of left child ≡ Some e)
passed_by old new x left child e t same more live (inl listed) =
    inl (more (own_slot e) child ∙ ap (λ b. (is_slot (slot_in x.1.place) (own_slot e) && is_same_file x.0 child) || b) listed ∙ or_true (is_slot (slot_in x.1.place) (own_slot e) && is_same_file x.0 child))
passed_by old new x left child e true same more live (inr one) =
    inl (ap (has new (own_slot e)) (is_same_file-true child x.0 same) ∙ added_own old new (slot_in x.1.place) x.0 e more (ap (λ (y : Entry). slot_in y.place) (some_is x.1 e one)) live)
passed_by old new x left child e false same more live (inr one) = inr one

-- one more is listed
pub names_on : (es : List (FileId × Entry)) (old new : ListsValue) (all : List (FileId × Entry)) (x : FileId × Entry) (left : List (FileId × Entry)) → NamesSome es old all → all ≡ x ∷ left → Adds (slot_in x.1.place) x.0 old new → NamesSome es new left
names_on es old new all x left names is more child e there live =
    let P : List (FileId × Entry) → Type 0 = NamesSome es old in
    passed_by old new x left child e (is_same_file child x.0) refl more live (subst P is names child e there live)

named_by : (b : Bool) (e : Entry) → (b ≡ true) ⊎ (◌≡◌ {A = Option Entry} None (Some e)) → b ≡ true
named_by b e (inl h) = h
named_by b e (inr h) = none_is e (b ≡ true) h

pub names_all : (es : List (FileId × Entry)) (named : ListsValue) (left : List (FileId × Entry)) → NamesSome es named left → left ≡ [] → AreNamed es named
names_all es named left names none child e there live =
    let P : List (FileId × Entry) → Type 0 = NamesSome es named in
    named_by (has named (own_slot e) child) e (subst P none names child e there live)

-- ---- what is kept of entries and their index

abbrev pub Kept : List (FileId × Entry) → ListsValue → Type 0
Kept es named = All Attributes es × AreFit es × AreNamed es named

-- where an entry did not come
pub keeps_more : (es ns : List (FileId × Entry)) (named listed : ListsValue) (next : Option FileId) (child : FileId) → Kept es named → Adds next child named listed → ns ≡ es → Kept ns listed
keeps_more es ns named listed next child k more same =
    subst (λ xs. Kept xs listed) (sym same) (k.0, k.1, named_more es named listed next child k.2 more)

-- a new entry, or another one
pub keeps_new : (es ns : List (FileId × Entry)) (named listed : ListsValue) (next : Option FileId) (e : Entry) → Kept es named → Adds next e.child named listed → next ≡ slot_in e.place → Fits e.child → ns ≡ put_entry es e → Kept ns listed
keeps_new es ns named listed next e k more slot fits put =
    let new : Kept (put_entry es e) listed = (
      own_insert e es k.0,
      taken_fit es (put_entry es e) e.child e k.1 fits (takes_put es e),
      taken_named es (put_entry es e) listed e.child e (named_more es named listed next e.child k.2 more) (added_own named listed next e.child e more slot) (takes_put es e),
    ) in
    subst (λ xs. Kept xs listed) (sym put) new

pub keeps_left : (es : List (FileId × Entry)) (listed left : ListsValue) (held next : Option FileId) (child : FileId) (e : Entry) → Kept es listed → Leaves held next child listed left → entry_of es child ≡ Some e → next ≡ slot_in e.place → Kept es left
keeps_left es listed left held next child e k leaves there slot = (k.0, k.1, left_named es listed left held next child e k.2 leaves there slot)

pub keeps_put : (es ns : List (FileId × Entry)) (named listed left : ListsValue) (held next : Option FileId) (e : Entry) → Kept es named → Adds next e.child named listed → next ≡ slot_in e.place → Fits e.child → ns ≡ put_entry es e
    → Leaves held next e.child listed left → Kept ns left
keeps_put es ns named listed left held next e k more slot fits put leaves =
    let there = ap (λ xs. entry_of xs e.child) put ∙ put_is_found es e e.child ∙ ap (λ b. cond b (Some e) (entry_of es e.child)) (is_same_file-refl e.child) in
    keeps_left ns listed left held next e.child e (keeps_new es ns named listed next e k more slot fits put) leaves there slot

-- an entry that changed where it stands
pub keeps_set : (es ns : List (FileId × Entry)) (named listed : ListsValue) (next : Option FileId) (child : FileId) (held w : Entry) → Kept es named → Adds next child named listed → entry_of es child ≡ Some held → w.child ≡ held.child → next ≡ slot_in w.place
    → ns ≡ set_value (is_at (file_cmp child)) es w → Kept ns listed
keeps_set es ns named listed next child held w k more there own slot set =
    let takes = takes_set es child held w there in
    let new : Kept (set_value (is_at (file_cmp child)) es w) listed = (
      own_set (is_at (file_cmp child)) held w es there own k.0,
      taken_fit es (set_value (is_at (file_cmp child)) es w) child w k.1 (k.1 child held there) takes,
      taken_named es (set_value (is_at (file_cmp child)) es w) listed child w (named_more es named listed next child k.2 more) (added_own named listed next child w more slot) takes,
    ) in
    subst (λ xs. Kept xs listed) (sym set) new

pub keeps_moved : (es ns : List (FileId × Entry)) (named listed left : ListsValue) (off next : Option FileId) (child : FileId) (held w : Entry) → Kept es named → Adds next child named listed → entry_of es child ≡ Some held → w.child ≡ held.child
    → next ≡ slot_in w.place → ns ≡ set_value (is_at (file_cmp child)) es w → Leaves off next child listed left → Kept ns left
keeps_moved es ns named listed left off next child held w k more there own slot set leaves =
    let found = ap (λ xs. entry_of xs child) set ∙ takes_set es child held w there child ∙ ap (λ b. cond b (Some w) (entry_of es child)) (is_same_file-refl child) in
    keeps_left ns listed left off next child w (keeps_set es ns named listed next child held w k more there own slot set) leaves found slot
