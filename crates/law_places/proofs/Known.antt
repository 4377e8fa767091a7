-- What is known at a server: each place of a thing may stand. Each change of names and of
-- intentions keeps it, where what comes may stand too.
use Rattle.std.proofs.Common.{ℕ, ◌≡◌, Bool, true, false, cond, ◌&&◌, List, [], ◌∷◌, ◌++◌, Option, None, Some, filter, refl, sym, ap, subst, ◌∙◌, inl, inr, ◌⊎◌}
use Rattle.std.proofs.lemmas.Option.{none-some, same_Some}
use Rattle.std.proofs.lemmas.Bool.{and_parts}
use Rattle.law_frame.specs.pg_run.pg_base.declared.id.FileId.{FileId}
use Rattle.law_frame.specs.pg_run.pg_base.Id.{is_same_file}
use Rattle.law_frame.specs.pg_run.pg_base.Stamp.{is_before}
use Rattle.law_frame.proofs.pg_run.pg_base.Orders.{is_same_file-true}
use Rattle.law_frame.specs.pg_run.pg_entries.declared.entry.Entry.{Entry}
use Rattle.law_frame.specs.pg_run.pg_entries.Entry.{joined_to}
use Rattle.law_frame.specs.pg_run.pg_house.Facts.{IsHeld}
use Rattle.law_frame.proofs.pg_run.pg_house.Truths.{bool_cases}
use Rattle.law_frame.proofs.pg_run.theory_flood_pieces.Choices.{chosen}
use Rattle.law_frame.specs.pg_run.pg_intent.declared.intent.Intent.{Intent}
use Rattle.law_frame.specs.pg_run.pg_intent.declared.intent.Intent.TheVariants as intent
use Rattle.law_frame.specs.pg_run.pg_intent.declared.key.IntentKey.{IntentKey}
use Rattle.law_frame.specs.pg_run.pg_intent.Intent.{aimed_at, key_of, rejoined}
use Rattle.law_frame.specs.pg_run.pg_intent.Intents.{aimed, begun, changed, has_key, intent_at, stands}
use Rattle.law_frame.specs.pg_run.pg_names.declared.attributes.Attributes.{Attributes}
use Rattle.law_frame.specs.pg_run.pg_names.Names.{NamesValue, begin, cell_at, entry_in, fill, join_entry, join_flag, join_place, known, new_held, own_at, own_of, own_or_blank, or_blank, raise, with_flag, with_joined, with_place, let_go}
use Rattle.law_frame.proofs.pg_run.pg_names.Gone.{gone_cell, gone_own, gone_own_other}
use Rattle.law_frame.proofs.pg_run.pg_names.Holding.{begun_known, fill_cells, fill_own}
use Rattle.law_frame.proofs.pg_run.pg_names.Lookups.{flag_cell, flag_other, flag_same, joined_other_child, joined_other_dir, joined_own, joined_same, known_absent, own_with_flag, own_with_place, place_cell, place_other, place_same}
use Rattle.law_frame.specs.pg_run.pg_register.declared.flag.Flag.{Flag}
use Rattle.law_frame.specs.pg_run.pg_register.declared.place.Place.{Place}
use Rattle.law_frame.specs.pg_run.pg_register.Place.{blank_place, newer_place, root}

module _ (P : FileId → Place → Type 0) where
  -- of all things that are held, and of all children of directories; and the root is held
  pub record AreNames (names : NamesValue) : Type 0 where
    pub own : (f : FileId) (o : Attributes) → own_at names f ≡ Some o → P f o.place
    pub child : (d c : FileId) (e : Entry) → cell_at names d c ≡ Some e → e.child ≡ c
    pub cells : (d c : FileId) (e : Entry) → cell_at names d c ≡ Some e → P c e.place
    pub top : IsHeld names root

  -- of what a directory is to be told
  abbrev pub OfIntent : Intent → Type 0
  OfIntent (intent.Patch dir e target) = P e.child e.place
  OfIntent _ = Unit {0}

  abbrev pub OfAll : List Intent → Type 0
  OfAll [] = Unit {0}
  OfAll (i ∷ is) = OfIntent i × OfAll is

  -- ---- one own place changes

  newer_is : (f : FileId) (p q : Place) → P f p → P f q → P f (newer_place p q)
  newer_is f p q a b = chosen (P f) (is_before p.stamp q.stamp) q p b a

  module _ (a b : NamesValue) (k : AreNames a) where
    module _ (f : FileId) (x : Attributes) (is : own_at b f ≡ Some x) (others : (q : FileId) → is_same_file f q ≡ false → own_at b q ≡ own_at a q) (new : P f x.place) where
      own_by : (q : FileId) (o : Attributes) → own_at b q ≡ Some o → (is_same_file f q ≡ true) ⊎ (is_same_file f q ≡ false) → P q o.place
      own_by q o h (inr apart) = k.own q o (sym (others q apart) ∙ h)
      own_by q o h (inl same) =
          let at : f ≡ q = is_same_file-true f q same in
          let e : x ≡ o = same_Some x o (sym is ∙ ap (own_at b) at ∙ h) in
          subst (λ (g : FileId). P g o.place) at (subst (λ (y : Attributes). P f y.place) e new)

      top_by : (is_same_file f root ≡ true) ⊎ (is_same_file f root ≡ false) → IsHeld b root
      top_by (inl same) = (x, ap (own_at b) (sym (is_same_file-true f root same)) ∙ is)
      top_by (inr apart) = (k.top.0, others root apart ∙ k.top.1)

      pub one_names : ((d c : FileId) → cell_at b d c ≡ cell_at a d c) → AreNames b
      one_names cells = record {
        own = λ q o h. own_by q o h (bool_cases (is_same_file f q));
        child = λ d c e h. k.child d c e (sym (cells d c) ∙ h);
        cells = λ d c e h. k.cells d c e (sym (cells d c) ∙ h);
        top = top_by (bool_cases (is_same_file f root));
      }

    -- nothing is found otherwise
    pub same_names : ((q : FileId) → own_at b q ≡ own_at a q) → ((d c : FileId) → cell_at b d c ≡ cell_at a d c) → AreNames b
    same_names own cells = record {
      own = λ q o h. k.own q o (sym (own q) ∙ h);
      child = λ d c e h. k.child d c e (sym (cells d c) ∙ h);
      cells = λ d c e h. k.cells d c e (sym (cells d c) ∙ h);
      top = (k.top.0, own root ∙ k.top.1);
    }

  module _ (s : NamesValue) (k : AreNames s) where
    pub raised_names : (time : ℕ) → AreNames (raise s time)
    raised_names time = record { own = λ q o h. k.own q o h; child = λ d c e h. k.child d c e h; cells = λ d c e h. k.cells d c e h; top = k.top }

    pub filled_names : (f : FileId) → AreNames (fill s f)
    filled_names f = same_names s (fill s f) k (fill_own s f) (fill_cells s f)

    module _ (f : FileId) where
      place_by : (place : Place) → P f place → (o : Option Attributes) → own_at s f ≡ o → AreNames (join_place s f place)
      place_by place new None e = subst AreNames (sym (known_absent s f (with_place place) e)) k
      place_by place new (Some b) e =
          one_names s (join_place s f place) k f (own_with_place place b) (place_same s f place b e) (place_other s f place)
          (newer_is f b.place place (k.own f b e) new) (place_cell s f place)

      pub place_names : (place : Place) → P f place → AreNames (join_place s f place)
      place_names place new = place_by place new (own_at s f) refl

      flag_by : (flag : Flag) (o : Option Attributes) → own_at s f ≡ o → AreNames (join_flag s f flag)
      flag_by flag None e = subst AreNames (sym (known_absent s f (with_flag flag) e)) k
      flag_by flag (Some b) e =
          one_names s (join_flag s f flag) k f (own_with_flag flag b) (flag_same s f flag b e) (flag_other s f flag) (k.own f b e) (flag_cell s f flag)

      pub flag_names : (flag : Flag) → AreNames (join_flag s f flag)
      flag_names flag = flag_by flag (own_at s f) refl

    -- ---- a cell comes

    module _ (d : FileId) (e : Entry) (new : P e.child e.place) where
      abbrev Cells : NamesValue
      Cells = join_entry s d e

      joined_child : (o : Option Entry) → cell_at s d e.child ≡ o → (joined_to o e).child ≡ e.child
      joined_child None h = refl
      joined_child (Some x) h = k.child d e.child x h

      joined_place : (o : Option Entry) → cell_at s d e.child ≡ o → P e.child (joined_to o e).place
      joined_place None h = new
      joined_place (Some x) h = newer_is e.child x.place e.place (k.cells d e.child x h) new

      -- a cell that is there then is the one that came, joined, or it was there
      cell_by : (b : Attributes) → own_at s d ≡ Some b → (q c : FileId) (x : Entry) → cell_at Cells q c ≡ Some x
          → (is_same_file d q ≡ true) ⊎ (is_same_file d q ≡ false) → (is_same_file c e.child ≡ true) ⊎ (is_same_file c e.child ≡ false)
          → ((x ≡ joined_to (cell_at s d e.child) e) × (e.child ≡ c)) ⊎ (cell_at s q c ≡ Some x)
      cell_by b held q c x h (inr apart) other = inr (sym (joined_other_dir s d e q c apart) ∙ h)
      cell_by b held q c x h (inl same) (inr apart) = inr (sym (joined_other_child s d e q c apart) ∙ h)
      cell_by b held q c x h (inl same) (inl child) =
          let dir : d ≡ q = is_same_file-true d q same in
          let at : e.child ≡ c = sym (is_same_file-true c e.child child) in
          inl (same_Some x (joined_to (cell_at s d e.child) e) (sym h ∙ sym (ap (λ g. cell_at Cells g c) dir) ∙ sym (ap (cell_at Cells d) at) ∙ joined_same s d b e held), at)

      entry_of_is : (b : Attributes) → own_at s d ≡ Some b → (q c : FileId) (x : Entry) → cell_at Cells q c ≡ Some x → (x.child ≡ c) × P c x.place
      entry_of_is b held q c x h = elim (cell_by b held q c x h (bool_cases (is_same_file d q)) (bool_cases (is_same_file c e.child))) [
        | inl new ↦ (
          ap (λ (y : Entry). y.child) new.0 ∙ joined_child (cell_at s d e.child) refl ∙ new.1,
          subst (λ (g : FileId). P g x.place) new.1 (subst (λ (y : Entry). P e.child y.place) (sym new.0) (joined_place (cell_at s d e.child) refl)),
        )
        | inr old ↦ (k.child q c x old, k.cells q c x old)
      ]

      entry_by : (o : Option Attributes) → own_at s d ≡ o → AreNames Cells
      entry_by None h = subst AreNames (sym (known_absent s d (with_joined e) h)) k
      entry_by (Some b) h = record {
        own = λ q o i. k.own q o (sym (joined_own s d e q) ∙ i);
        child = λ q c x i. (entry_of_is b h q c x i).0;
        cells = λ q c x i. (entry_of_is b h q c x i).1;
        top = (k.top.0, joined_own s d e root ∙ k.top.1);
      }

      pub entry_names : AreNames Cells
      entry_names = entry_by (own_at s d) refl

    -- ---- a thing becomes held

    module _ (f : FileId) (own : Attributes) (full : Bool) (new : P f own.place) where
      abbrev Begun : NamesValue
      Begun = begin s f own full

      begun_own_by : (q : FileId) (o : Attributes) (t : Bool) → is_same_file q f ≡ t → own_of (cond t (Some (new_held own full)) (known s q)) ≡ Some o → P q o.place
      begun_own_by q o false e h = k.own q o h
      begun_own_by q o true e h =
          subst (λ (g : FileId). P g o.place) (sym (is_same_file-true q f e)) (subst (λ (y : Attributes). P f y.place) (same_Some own o h) new)

      begun_cell_by : (q c : FileId) (x : Entry) (t : Bool) → entry_in c (cond t (Some (new_held own full)) (known s q)) ≡ Some x → cell_at s q c ≡ Some x
      begun_cell_by q c x false h = h
      begun_cell_by q c x true h = absurd (none-some x h)

      begun_cell : (q c : FileId) (x : Entry) → cell_at Begun q c ≡ Some x → cell_at s q c ≡ Some x
      begun_cell q c x h = begun_cell_by q c x (is_same_file q f) (sym (ap (entry_in c) (begun_known s f own full q)) ∙ h)

      begun_top : (t : Bool) → (o : Attributes) × (own_of (cond t (Some (new_held own full)) (known s root)) ≡ Some o)
      begun_top true = (own, refl)
      begun_top false = k.top

      pub begun_names : AreNames Begun
      begun_names = record {
        own = λ q o h. begun_own_by q o (is_same_file q f) refl (sym (ap own_of (begun_known s f own full q)) ∙ h);
        child = λ q c x h. k.child q c x (begun_cell q c x h);
        cells = λ q c x h. k.cells q c x (begun_cell q c x h);
        top = (let r = begun_top (is_same_file root f) in (r.0, ap own_of (begun_known s f own full root) ∙ r.1));
      }

    -- ---- a thing but the root is held no longer

    pub gone_names : (f : FileId) → is_same_file f root ≡ false → AreNames (let_go s f)
    gone_names f apart = record {
      own = λ q o h. k.own q o (gone_own s f q o h).1;
      child = λ d c e h. k.child d c e (gone_cell s f d c e h).1;
      cells = λ d c e h. k.cells d c e (gone_cell s f d c e h).1;
      top = (k.top.0, gone_own_other s f root apart ∙ k.top.1);
    }

    -- ---- what is known of a thing

    root_by : (g : FileId) → own_at s g ≡ None → (t : Bool) → is_same_file g root ≡ t → t ≡ false
    root_by g none false e = refl
    root_by g none true e = absurd (none-some k.top.0 (sym none ∙ ap (own_at s) (is_same_file-true g root e) ∙ k.top.1))

    or_by : ((f : FileId) → is_same_file f root ≡ false → P f (blank_place f)) → (f : FileId) (o : Option Attributes) → own_at s f ≡ o → P f (or_blank f o).place
    or_by blanks f None e = blanks f (root_by f e (is_same_file f root) refl)
    or_by blanks f (Some x) e = k.own f x e

    pub or_is : ((f : FileId) → is_same_file f root ≡ false → P f (blank_place f)) → (f : FileId) → P f (own_or_blank s f).place
    or_is blanks f = or_by blanks f (own_at s f) refl

  -- ---- intentions

  found_by : (i j : Intent) (t : Bool) (o : Option Intent) → OfIntent j → (o ≡ Some i → OfIntent i) → cond t (Some j) o ≡ Some i → OfIntent i
  found_by i j true o h rest e = subst OfIntent (same_Some j i e) h
  found_by i j false o h rest e = rest e

  pub found_is : (is : List Intent) (k : IntentKey) (i : Intent) → OfAll is → intent_at is k ≡ Some i → OfIntent i
  found_is [] k i h e = absurd (none-some i e)
  found_is (j ∷ js) k i h e = found_by i j (has_key k j) (intent_at js k) h.0 (λ f. found_is js k i h.1 f) e

  pub last_is : (is : List Intent) (i : Intent) → OfAll is → OfIntent i → OfAll (is ++ i ∷ [])
  last_is [] i h new = (new, tt)
  last_is (j ∷ js) i h new = (h.0, last_is js i h.1 new)

  pub filter_is : (test : Intent → Bool) (is : List Intent) → OfAll is → OfAll (filter test is)
  filter_is test [] h = tt
  filter_is test (i ∷ is) h = chosen OfAll (test i) (i ∷ filter test is) (filter test is) (h.0, filter_is test is h.1) (filter_is test is h.1)

  module _ (f : Intent → Intent) (k : IntentKey) (up : (i : Intent) → has_key k i ≡ true → OfIntent i → OfIntent (f i)) where
    changed_by : (i : Intent) (is : List Intent) (t : Bool) → has_key k i ≡ t → OfAll (i ∷ is) → OfAll (changed f is k) → OfAll (cond t (f i ∷ is) (i ∷ changed f is k))
    changed_by i is true e h rest = (up i e h.0, h.1)
    changed_by i is false e h rest = (h.0, rest)

    pub changed_is : (is : List Intent) → OfAll is → OfAll (changed f is k)
    changed_is [] h = tt
    changed_is (i ∷ is) h = changed_by i is (has_key k i) refl h (changed_is is h.1)

  aimed_one : (to : ℕ) (i : Intent) → OfIntent i → OfIntent (aimed_at to i)
  aimed_one to (intent.Patch d e t) h = h
  aimed_one to (intent.Bye f b p c) h = tt
  aimed_one to (intent.Seek f t) h = tt
  aimed_one to (intent.Fill f b t) h = tt
  aimed_one to (intent.Confirm d c t) h = tt
  aimed_one to (intent.Leave f p b) h = tt

  pub aimed_is : (is : List Intent) (k : IntentKey) (to : ℕ) → OfAll is → OfAll (aimed is k to)
  aimed_is is k to h = changed_is (aimed_at to) k (λ i e g. aimed_one to i g) is h

  joined_patch : (d dir : FileId) (x e : Entry) → (is_same_file d dir && is_same_file e.child x.child) ≡ true → P x.child x.place → P e.child e.place → P x.child (newer_place x.place e.place)
  joined_patch d dir x e same h new =
      let at : e.child ≡ x.child = is_same_file-true e.child x.child (and_parts (is_same_file d dir) (is_same_file e.child x.child) same).1 in
      newer_is x.child x.place e.place h (subst (λ (g : FileId). P g e.place) at new)

  rejoined_one : (j i : Intent) → has_key (key_of j) i ≡ true → OfIntent i → OfIntent j → OfIntent (rejoined i j)
  rejoined_one (intent.Patch d e t) (intent.Patch dir x target) same h new = joined_patch d dir x e same h new
  rejoined_one (intent.Bye f b p c) (intent.Patch dir x target) same h new = h
  rejoined_one (intent.Seek f t) (intent.Patch dir x target) same h new = h
  rejoined_one (intent.Fill f b t) (intent.Patch dir x target) same h new = h
  rejoined_one (intent.Confirm d c t) (intent.Patch dir x target) same h new = h
  rejoined_one (intent.Leave f p b) (intent.Patch dir x target) same h new = h
  rejoined_one j i same h new = h

  pub begun_is : (is : List Intent) (i : Intent) → OfAll is → OfIntent i → OfAll (begun is i)
  begun_is is i h new =
      chosen OfAll (stands is (key_of i)) (changed (λ held. rejoined held i) is (key_of i)) (is ++ i ∷ [])
      (changed_is (λ held. rejoined held i) (key_of i) (λ held e g. rejoined_one i held e g new) is h) (last_is is i h new)

-- what may stand may stand by a weaker rule
module _ (P Q : FileId → Place → Type 0) (up : (f : FileId) (p : Place) → P f p → Q f p) where
  pub names_further : (s : NamesValue) → AreNames P s → AreNames Q s
  names_further s k = record { own = λ f o h. up f o.place (k.own f o h); child = k.child; cells = λ d c e h. up c e.place (k.cells d c e h); top = k.top }

  intent_further : (i : Intent) → OfIntent P i → OfIntent Q i
  intent_further (intent.Patch d e t) h = up e.child e.place h
  intent_further (intent.Bye f b p c) h = tt
  intent_further (intent.Seek f t) h = tt
  intent_further (intent.Fill f b t) h = tt
  intent_further (intent.Confirm d c t) h = tt
  intent_further (intent.Leave f p b) h = tt

  pub intents_further : (is : List Intent) → OfAll P is → OfAll Q is
  intents_further [] h = tt
  intents_further (i ∷ is) h = (intent_further i h.0, intents_further is h.1)
