-- As long as a thing is seen to have a live gold replica, house rules and the raising of flags
-- raise none of it.
use Rattle.std.proofs.Common.{ℕ, ◌≡◌, ◌&&◌, not, Bool, true, false, List, [], ◌∷◌, drop, length, Option, None, Some, is_some, refl, sym, ap, subst, ◌∙◌, inl, inr, ◌⊎◌}
use Rattle.std.proofs.lemmas.Bool.{and_from, false≢true}
use Rattle.pg_run.specs.pg_base.declared.id.FileId.{FileId}
use Rattle.pg_run.specs.pg_base.Id.{is_same_file}
use Rattle.pg_run.proofs.pg_base.Orders.{is_same_file-refl, is_same_file-true}
use Rattle.pg_run.specs.pg_content.Content.{Among}
use Rattle.pg_run.proofs.pg_content.Members.{any_by}
use Rattle.law_golds.proofs.law_contents.Rules.{ArePlaces, house_makes}
use Rattle.pg_run.specs.pg_house.House.{house}
use Rattle.pg_run.specs.pg_house.Work.{state_of}
use Rattle.pg_run.proofs.pg_house.Keys.{rules_by}
use Rattle.pg_run.specs.pg_msg.declared.update.Update.{Update}
use Rattle.pg_run.specs.pg_msg.declared.update.Update.TheVariants as update
use Rattle.pg_run.specs.pg_msg.declared.work.Work.{Work}
use Rattle.pg_run.specs.pg_msg.Work.{with_made}
use Rattle.pg_run.specs.pg_names.declared.attributes.Attributes.{Attributes}
use Rattle.pg_run.specs.pg_names.Names.{InodeValue, NamesValue, known, or_blank, own_at, own_of, with_flag}
use Rattle.pg_run.proofs.pg_names.Lookups.{flag_other, update_frame}
use Rattle.pg_run.specs.pg_register.declared.flag.Flag.{Flag}
use Rattle.pg_run.specs.pg_register.Flag.{flag_of, is_live, is_older, is_removed}
use Rattle.pg_run.specs.pg_pieces.Golds.{is_goldless, is_goldless_held, is_of_later, sees_gold}
use Rattle.pg_run.specs.pg_pieces.Making.{own_next, raise_flag}
use Rattle.pg_run.specs.pg_cells.Settling.{rules, settle}
use Rattle.pg_run.proofs.pg_cells.Settled.{settle_keeps}
use Rattle.pg_run.specs.pg_store.declared.store.Store.{Store}
use Rattle.pg_run.specs.pg_store.Births.{birth_of}
use Rattle.pg_run.specs.pg_store.Seen.{removed_of, server_of}
use Rattle.pg_run.specs.pg_store.Store.{is_newer_flag, put_flag, take_flag, with_names}
use Rattle.pg_run.specs.theory_flood_pieces.UpTo.{IsFlagKnownBy}
use Rattle.pg_run.specs.theory_flood_pieces.Whole.{IsWhole}
use Rattle.pg_run.proofs.theory_flood_pieces.Choices.{chosen}
use Rattle.pg_run.proofs.theory_flood_pieces.Grown.{grown_by_steps}
use Rattle.pg_run.proofs.theory_flood_pieces.Settling.{rules_steps, whole_raised, whole_rules}
use Rattle.pg_run.proofs.theory_flood_pieces.Touching.{same_names}
use Rattle.law_golds.specs.law_births.Flags.{SaysNames}
use Rattle.law_golds.proofs.law_births.Here.{birth_of_held}
use Rattle.law_golds.proofs.law_births.Joined.{found_says}
use Rattle.law_golds.proofs.law_births.NamesSay.{house_says, says_flag}
use Rattle.pg_run.proofs.Found.{flag_found}
use Rattle.pg_run.proofs.Lists.{among_parts}
use Rattle.pg_run.proofs.Still.{flag_still}
use Rattle.law_repair.proofs.GoldsThere.{flag_at, own_of_known}
use Rattle.law_repair.proofs.FlagHad.{grown_by}

-- what is known of this server's flags of the thing is older than this one, or this one
abbrev pub UpTo : FileId → Flag → FileId → Flag → Type 0
UpTo file z f h = f ≡ file → h.server ≡ z.server → (is_older h z ≡ true) ⊎ (h ≡ z)

places_none : (file : FileId) (g : Flag) (us : List Update) → ArePlaces us → Among (update.Flag file g) us → ⊥
places_none file g [] are there = absurd there
places_none file g (update.Place q place ∷ us) are (inl same) = absurd (let z : update.Flag file g ≡ update.Place q place = same in cc)
places_none file g (update.Place q place ∷ us) are (inr rest) = places_none file g us are rest
places_none file g (update.Version made ∷ us) are there = absurd are
places_none file g (update.Flag q flag ∷ us) are there = absurd are

thing_is : (f q : FileId) (g h : Flag) → update.Flag f g ≡ update.Flag q h → f ≡ q
thing_is f q g h e = cc

held_by : (o : Option InodeValue) (own : Attributes) → own_of o ≡ Some own → is_some o ≡ true
held_by None own h = absurd (let z : ◌≡◌ {A = Option Attributes} None (Some own) = h in cc)
held_by (Some x) own h = refl

module _ (n s : ℕ) (file : FileId) (z : Flag) (raised : z.raised ≡ true) where
  -- no raised flag of the thing was made
  abbrev pub NoneRaised : List Update → Type 0
  NoneRaised us = (g : Flag) → Among (update.Flag file g) us → g.raised ≡ false

  -- the store knows this flag, which is that of a live server, and no later one of the server
  pub record Stands (b : Store) (w : Work) : Type 0 where
    pub whole : IsWhole n s b
    pub says : SaysNames (UpTo file z) s b.names
    pub there : flag_at b file z.server ≡ Some z
    pub live : is_removed (removed_of b) z.server ≡ false
    pub none : NoneRaised w.made

  -- ---- so the thing is not without a gold one

  bright : (sees later : Bool) (full : Bool) → sees ≡ true → (full && (not sees && not later)) ≡ false
  bright true later true h = refl
  bright true later false h = refl
  bright false later full h = absurd (false≢true h)

  goldless_by : (b : Store) (birth : ℕ) (o : Option InodeValue) → flag_of (or_blank file (own_of o)).flags z.server ≡ Some z
      → is_removed (removed_of b) z.server ≡ false → is_goldless_held (removed_of b) (server_of b) birth o ≡ false
  goldless_by b birth None there live = refl
  goldless_by b birth (Some x) there live =
      let found = flag_found x.own.flags z.server z there in
      let lives : is_live (removed_of b) z ≡ true = and_from z.raised (not (is_removed (removed_of b) z.server)) raised (ap not live) in
      bright (sees_gold (removed_of b) x.own.flags) (is_of_later birth (flag_of x.own.flags (server_of b))) x.full
      (any_by (is_live (removed_of b)) x.own.flags z found.0 lives)

  not_goldless : (b : Store) (w : Work) → Stands b w → is_goldless b file ≡ false
  not_goldless b w k = goldless_by b (birth_of b file) (known b.names file) k.there k.live

  -- ---- what is known of it is this flag

  pub flag_is : (b : Store) → SaysNames (UpTo file z) s b.names → (y : Flag) → flag_at b file z.server ≡ Some y → is_older y z ≡ false → y ≡ z
  flag_is b says y there newer =
      let own = own_of_known b file z.server y there in
      let in_own : flag_of own.0.flags z.server ≡ Some y = ap (λ (o : Option Attributes). flag_of (or_blank file o).flags z.server) (sym own.1) ∙ there in
      let up : UpTo file z file y = found_says (UpTo file z file) own.0.flags z.server y (says.own file own.0 own.1) in_own in
      elim (up refl (flag_found own.0.flags z.server y in_own).1) [
        | inl older ↦ absurd (false≢true (sym newer ∙ older))
        | inr same ↦ same
      ]

  -- ---- the rules run

  rules_stand : (b : Store) (w : Work) → Stands b w → Stands (rules b w).store (rules b w).work
  rules_stand b w k =
      let st = house w.now (state_of b.names w) in
      let whole = whole_rules n s b w k.whole in
      let same : (rules b w).store.names ≡ st.names = same_names (with_names b st.names) (drop (length w.touched) st.work.touched) in
      let says : SaysNames (UpTo file z) s (rules b w).store.names =
      subst (SaysNames (UpTo file z) s) (sym same) (house_says (UpTo file z) s w.now (state_of b.names w) k.says) in
      let own = own_of_known b file z.server z k.there in
      let birth = birth_of_held b k.whole.together file (held_by (known b.names file) own.0 own.1) in
      let grown = (grown_by_steps n s b (rules b w).store k.whole whole (rules_steps n s b w k.whole) file birth.0 birth.1).1.flags z.server in
      let y = grown_by z (flag_at (rules b w).store file z.server) (subst (λ (o : Option Flag). IsFlagKnownBy o (flag_at (rules b w).store file z.server)) k.there grown) in
      let made = house_makes w.now (state_of b.names w) in
      record {
        whole = whole;
        says = says;
        there = y.1 ∙ ap Some (flag_is (rules b w).store says y.0 y.1 y.2);
        live = ap (λ (m : NamesValue). is_removed m.removed z.server) same
            ∙ ap (λ (rs : List ℕ). is_removed rs z.server) (rules_by w.now (state_of b.names w)).1 ∙ k.live;
        none = λ g there. elim (among_parts (update.Flag file g) w.made made.places (subst (Among (update.Flag file g)) made.made there)) [
          | inl old ↦ k.none g old
          | inr new ↦ absurd (places_none file g made.places made.are new)
        ];
      }

  -- ---- a flag of another thing is raised

  apart_by : (f : FileId) (b : Store) (t : Bool) → is_same_file f file ≡ t → is_goldless b f ≡ true → is_goldless b file ≡ false → t ≡ false
  apart_by f b true e goldless bright_one = absurd (false≢true (sym bright_one ∙ ap (is_goldless b) (sym (is_same_file-true f file e)) ∙ goldless))
  apart_by f b false e goldless bright_one = refl

  other_flags : (b : Store) (f : FileId) (g : Flag) → is_same_file f file ≡ false → own_at (take_flag b f g).names file ≡ own_at b.names file
  other_flags b f g apart =
      chosen (λ (c : Store). own_at c.names file ≡ own_at b.names file) (is_newer_flag b f g) (put_flag b f g) b (flag_other b.names f g file apart) refl

  raises_stand : (b : Store) (f : FileId) (w : Work) → is_goldless b f ≡ true → Stands b w → Stands (raise_flag b f w).store (raise_flag b f w).work
  raises_stand b f w goldless k =
      let g = own_next b f true in
      let apart = apart_by f b (is_same_file f file) refl goldless (not_goldless b w k) in
      record {
        whole = whole_raised n s b f w k.whole;
        says = chosen (λ (c : Store). SaysNames (UpTo file z) s c.names) (is_newer_flag b f g) (put_flag b f g) b
            (says_flag (UpTo file z) s b.names f g (λ same at. absurd (not_same f apart same)) k.says) k.says;
        there = ap (λ (o : Option Attributes). flag_of (or_blank file o).flags z.server) (other_flags b f g apart) ∙ k.there;
        live = chosen (λ (c : Store). is_removed (removed_of c) z.server ≡ false) (is_newer_flag b f g) (put_flag b f g) b
            (ap (λ (rs : List ℕ). is_removed rs z.server) (update_frame b.names f (with_flag g)).removed ∙ k.live) k.live;
        none = λ h there. elim (among_parts (update.Flag file h) w.made (update.Flag f g ∷ [])
            (subst (Among (update.Flag file h)) (flag_still b f g (with_made w (update.Flag f g))).made there)) [
              | inl old ↦ k.none h old
              | inr new ↦ absurd (only f g h apart new)
            ];
      }
    where
      not_same : (f : FileId) → is_same_file f file ≡ false → f ≡ file → ⊥
      not_same f apart e =
          false≢true (sym apart ∙ ap (λ (q : FileId). is_same_file q file) e ∙ is_same_file-refl file)

      only : (f : FileId) (g h : Flag) → is_same_file f file ≡ false → Among (update.Flag file h) (update.Flag f g ∷ []) → ⊥
      only f g h apart (inl same) = not_same f apart (sym (thing_is file f h g same))
      only f g h apart (inr rest) = absurd rest

  -- BEHIND ALL RULES
  pub settled_stands : (b : Store) (w : Work) → Stands b w → Stands (settle b w).store (settle b w).work
  settled_stands b w k = settle_keeps Stands rules_stand raises_stand b w k
