-- A place or a flag comes to a thing that is held, or is made by the server.
use Rattle.std.proofs.Common.{◌≡◌, false, List, [], ◌∷◌, Some, refl, sym, ap, ◌∙◌}
use Rattle.pg_run.specs.pg_base.declared.id.FileId.{FileId}
use Rattle.pg_run.specs.pg_base.Stamp.{is_before}
use Rattle.pg_run.specs.pg_register.declared.flag.Flag.{Flag}
use Rattle.pg_run.specs.pg_register.declared.place.Place.{Place}
use Rattle.pg_run.specs.pg_register.Flag.{flag_of, is_new, join_flag, put_flag}
use Rattle.pg_run.specs.pg_register.Place.{newer_place}
use Rattle.pg_run.specs.pg_names.declared.attributes.Attributes.{Attributes}
use Rattle.pg_run.specs.pg_names.Names.{NamesValue, is_flag_new, is_place_new, join_flag as names_flag, join_place, or_blank, own_at, own_or_blank, with_flag, with_place}
use Rattle.pg_run.proofs.pg_names.Lookups.{flag_cell, flag_other, flag_same, own_back, own_with_flag, own_with_place, place_cell, place_other, place_same, update_frame}
use Rattle.pg_run.proofs.pg_house.Truths.{chosen_false}
use Rattle.pg_run.proofs.theory_flood_pieces.Choices.{decided}
use Rattle.pg_run.specs.pg_store.declared.store.Store.{Store}
use Rattle.pg_run.specs.pg_store.Store.{is_newer_flag, is_newer_place, put_flag as store_flag, put_place, take_flag, take_place}
use Rattle.pg_run.specs.Took.{Take, first_place}
use Rattle.pg_run.specs.Took.Take.{TookFlag, TookPlace}
use Rattle.pg_run.specs.Took.Taker.{Itself}
use Rattle.law_passing.specs.Tells.{Tells}
use Rattle.law_passing.proofs.Coming.{held_by_keys}
use Rattle.law_passing.proofs.Latest.{first_stamp_is}
use Rattle.law_passing.proofs.PassedAll.{none_before}
use Rattle.law_passing.proofs.Pieces.{OwnComes, own_tells}
use Rattle.law_passing.proofs.Singles.{flag_all, flag_latest, flag_newest, one_flag, one_place, place_all, place_latest, place_newest}

-- nothing is before the first place
pub newer_first : (f : FileId) (a : Place) → newer_place a (first_place f) ≡ a
newer_first f a =
    chosen_false (is_before a.stamp (first_place f).stamp) (first_place f) a
    (ap (is_before a.stamp) (first_stamp_is f) ∙ none_before a.stamp)

pub not_newer : (a p : Place) → is_before a.stamp p.stamp ≡ false → newer_place a p ≡ a
not_newer a p h = chosen_false (is_before a.stamp p.stamp) p a h

pub old_flag : (fs : List Flag) (g : Flag) → is_new (flag_of fs g.server) g ≡ false → join_flag fs g ≡ fs
old_flag fs g h = chosen_false (is_new (flag_of fs g.server) g) (put_flag fs g) fs h

-- ---- of one thing that is held

module _ (a : Store) (f : FileId) (own : Attributes) (held : own_at a.names f ≡ Some own) where
  abbrev S : NamesValue
  S = a.names

  known_own : own_or_blank S f ≡ own
  known_own = ap (or_blank f) held

  module _ (p : Place) where
    abbrev PlaceComes : Store → Type 0
    PlaceComes b = OwnComes S b.names (one_place f p) f p []

    abbrev Placed : NamesValue
    Placed = join_place S f p

    placed_is : own_or_blank Placed f ≡ own_with_place p own
    placed_is = ap (or_blank f) (place_same S f p own held)

    place_new : PlaceComes (put_place a f p)
    place_new = record {
      all = place_all f p;
      latest = place_latest f p;
      newest = place_newest f p;
      place = ap (λ (o : Attributes). o.place) placed_is ∙ ap (λ (o : Attributes). newer_place o.place p) (sym known_own);
      flags = ap (λ (o : Attributes). o.flags) placed_is ∙ ap (λ (o : Attributes). o.flags) (sym known_own);
      others = λ q apart. ap (or_blank q) (place_other S f p q apart);
      cells = λ d q. place_cell S f p d q;
      stays = λ q h. held_by_keys S Placed (update_frame S f (with_place p)).keys q h;
      was = λ q h. own_back S f (with_place p) q h.0 h.1;
    }

    place_old : is_newer_place a f p ≡ false → PlaceComes a
    place_old old =
        let before : is_before own.place.stamp p.stamp ≡ false = ap (λ o. is_place_new o p) (sym held) ∙ old in
        record {
          all = place_all f p;
          latest = place_latest f p;
          newest = place_newest f p;
          place = ap (λ (o : Attributes). o.place) known_own ∙ sym (not_newer own.place p before) ∙ ap (λ (o : Attributes). newer_place o.place p) (sym known_own);
          flags = refl;
          others = λ q apart. refl;
          cells = λ d q. refl;
          stays = λ q h. h;
          was = λ q h. h;
        }

    place_comes : PlaceComes (take_place a f p)
    place_comes = decided PlaceComes (is_newer_place a f p) (put_place a f p) a (λ new. place_new) place_old

    -- A PLACE IS TAKEN
    pub taken_place : (takes : List Take) → Tells S takes → Tells (take_place a f p).names (TookPlace Itself f p ∷ takes)
    taken_place takes k = own_tells S (take_place a f p).names takes (one_place f p) f p [] k place_comes

  module _ (g : Flag) where
    abbrev FlagComes : Store → Type 0
    FlagComes b = OwnComes S b.names (one_flag f g) f (first_place f) (g ∷ [])

    abbrev Flagged : NamesValue
    Flagged = names_flag S f g

    flagged_is : own_or_blank Flagged f ≡ own_with_flag g own
    flagged_is = ap (or_blank f) (flag_same S f g own held)

    flag_new : FlagComes (store_flag a f g)
    flag_new = record {
      all = flag_all f g;
      latest = flag_latest f g;
      newest = flag_newest f g;
      place = ap (λ (o : Attributes). o.place) flagged_is ∙ ap (λ (o : Attributes). o.place) (sym known_own) ∙ sym (newer_first f (own_or_blank S f).place);
      flags = ap (λ (o : Attributes). o.flags) flagged_is ∙ ap (λ (o : Attributes). join_flag o.flags g) (sym known_own);
      others = λ q apart. ap (or_blank q) (flag_other S f g q apart);
      cells = λ d q. flag_cell S f g d q;
      stays = λ q h. held_by_keys S Flagged (update_frame S f (with_flag g)).keys q h;
      was = λ q h. own_back S f (with_flag g) q h.0 h.1;
    }

    flag_old : is_newer_flag a f g ≡ false → FlagComes a
    flag_old old =
        let known : is_new (flag_of own.flags g.server) g ≡ false = ap (λ o. is_flag_new o g) (sym held) ∙ old in
        record {
          all = flag_all f g;
          latest = flag_latest f g;
          newest = flag_newest f g;
          place = sym (newer_first f (own_or_blank S f).place);
          flags = ap (λ (o : Attributes). o.flags) known_own ∙ sym (old_flag own.flags g known) ∙ ap (λ (o : Attributes). join_flag o.flags g) (sym known_own);
          others = λ q apart. refl;
          cells = λ d q. refl;
          stays = λ q h. h;
          was = λ q h. h;
        }

    flag_comes : FlagComes (take_flag a f g)
    flag_comes = decided FlagComes (is_newer_flag a f g) (store_flag a f g) a (λ new. flag_new) flag_old

    -- A FLAG IS TAKEN
    pub taken_flag : (takes : List Take) → Tells S takes → Tells (take_flag a f g).names (TookFlag Itself f g ∷ takes)
    taken_flag takes k = own_tells S (take_flag a f g).names takes (one_flag f g) f (first_place f) (g ∷ []) k flag_comes
