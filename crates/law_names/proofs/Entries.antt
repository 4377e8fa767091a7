-- An entry of a directory comes.
use Rattle.std.proofs.Common.{◌≡◌, false, List, [], ◌∷◌, ◌++◌, Option, None, Some, refl, sym, ap, subst, ◌∙◌, inl, inr}
use Rattle.std.proofs.lemmas.Bool.{false≢true, or_parts}
use Rattle.std.proofs.lemmas.Option.{none-some}
use Rattle.pg_run.specs.pg_base.declared.id.FileId.{FileId}
use Rattle.pg_run.specs.pg_base.Stamp.{is_before}
use Rattle.pg_run.specs.pg_content.Content.{Among}
use Rattle.pg_run.proofs.pg_content.Members.{among_map, map_among}
use Rattle.pg_run.specs.pg_register.declared.flag.Flag.{Flag}
use Rattle.pg_run.specs.pg_register.declared.place.Place.{Place}
use Rattle.pg_run.specs.pg_register.Flag.{IsByServer, brings_news, flag_of, is_new, join_flags}
use Rattle.pg_run.specs.pg_register.Place.{newer_place}
use Rattle.pg_run.proofs.pg_register.ByServer.{IsByServer-join_flags, IsByServer-nil, flag_of-join_flags, same_flags}
use Rattle.pg_run.specs.pg_entries.declared.entry.Entry.{Entry}
use Rattle.pg_run.specs.pg_entries.Entry.{brings, entry_of, joined, joined_to}
use Rattle.pg_run.specs.pg_names.declared.attributes.Attributes.{Attributes}
use Rattle.pg_run.specs.pg_names.Names.{InodeValue, NamesValue, cell_at, entry_in, is_entry_new, join_entry, known, or_blank, own_at, own_of, with_joined}
use Rattle.pg_run.proofs.pg_names.Lookups.{joined_own, joined_same, own_back, update_frame}
use Rattle.pg_run.proofs.pg_house.Truths.{chosen_false}
use Rattle.pg_run.proofs.theory_flood_pieces.Choices.{decided}
use Rattle.pg_run.proofs.theory_flood_pieces.Growth.{entry_at_one}
use Rattle.pg_run.specs.pg_store.declared.store.Store.{Store}
use Rattle.pg_run.specs.pg_store.Store.{is_newer_entry, put_entry, take_entry}
use Rattle.pg_run.specs.Took.{Take, Taker, entry_takes}
use Rattle.pg_run.specs.Took.Take.{Began, TookFlag, TookPlace}
use Rattle.pg_run.specs.Took.Taker.{InDir}
use Rattle.law_passing.specs.Newest.{AreNewest}
use Rattle.law_passing.specs.Tells.{HasFlag, HasPlace, IsCellOf, Tells}
use Rattle.law_passing.proofs.Coming.{held_by_keys}
use Rattle.law_names.proofs.Comes.{old_flag}
use Rattle.law_passing.proofs.Latest.{latest_same, latest_single}
use Rattle.law_passing.proofs.Newest.{newest_of, newest_same}
use Rattle.law_passing.proofs.Pieces.{AreOf, EntryComes, entry_tells}
use Rattle.law_passing.proofs.Singles.{began_flag, began_place, flag_taker, flag_thing, not_flag, not_place, same_flag, same_place, same_taker, same_thing}
use Rattle.law_passing.proofs.Takes.{there_entry}

-- ---- flags by server are the newest of themselves

pub alone : (fs : List Flag) → IsByServer fs → join_flags [] fs ≡ fs
alone fs sorted = same_flags (join_flags [] fs) fs (IsByServer-join_flags [] fs IsByServer-nil) sorted (λ n. flag_of-join_flags [] fs n sorted)

pub newest_themselves : (fs : List Flag) → IsByServer fs → AreNewest (λ g. Among g fs) fs
newest_themselves fs sorted = subst (AreNewest (λ g. Among g fs)) (alone fs sorted) (newest_of fs)

-- ---- the takes of an entry

module _ (d : FileId) (e : Entry) (sorted : IsByServer e.flags) where
  abbrev pub brought_by : List Take
  brought_by = entry_takes d e

  flag_from : (b : Taker) (f : FileId) (g : Flag) → Among (TookFlag b f g) brought_by → (h : Flag) × Among h e.flags × (TookFlag b f g ≡ TookFlag (InDir d) e.child h)
  flag_from b f g (inl i) = absurd (not_flag b (InDir d) f e.child e.place g i)
  flag_from b f g (inr more) = among_map (TookFlag (InDir d) e.child) e.flags (TookFlag b f g) more

  place_from : (b : Taker) (f : FileId) (p : Place) → Among (TookPlace b f p) brought_by → TookPlace b f p ≡ TookPlace (InDir d) e.child e.place
  place_from b f p (inl i) = i
  place_from b f p (inr more) =
      let r = among_map (TookFlag (InDir d) e.child) e.flags (TookPlace b f p) more in
      absurd (not_place b (InDir d) f e.child p r.0 r.2)

  none_begins : (f : FileId) → Among (Began f) brought_by → ⊥
  none_begins f (inl i) = began_place (InDir d) f e.child e.place i
  none_begins f (inr more) =
      let r = among_map (TookFlag (InDir d) e.child) e.flags (Began f) more in began_flag (InDir d) f e.child r.0 r.2

  entry_all : AreOf brought_by (InDir d) e.child
  entry_all = record {
    places = λ b f p h. (let i = place_from b f p h in (same_taker b (InDir d) f e.child p e.place i, same_thing b (InDir d) f e.child p e.place i));
    flags = λ b f g h. (let r = flag_from b f g h in (flag_taker b (InDir d) f e.child g r.0 r.2, flag_thing b (InDir d) f e.child g r.0 r.2));
    begin = none_begins;
  }

  to_flag : (g : Flag) → Among g e.flags → HasFlag brought_by (InDir d) e.child g
  to_flag g h = inr (map_among (TookFlag (InDir d) e.child) e.flags g h)

  from_flag : (g : Flag) → HasFlag brought_by (InDir d) e.child g → Among g e.flags
  from_flag g h =
      let r = flag_from (InDir d) e.child g h in
      let P : Flag → Type 0 = λ x. Among x e.flags in
      subst P (sym (same_flag (InDir d) (InDir d) e.child e.child g r.0 r.2)) r.1

  entry_is : IsCellOf brought_by d e.child e
  entry_is = record {
    child_is = refl;
    has = there_entry d e.child brought_by (inl (e.place, inl refl));
    place = latest_same {f = e.child} {P = λ q. q ≡ e.place} {Q = HasPlace brought_by (InDir d) e.child} (λ q i. inl (ap (TookPlace (InDir d) e.child) i))
        (λ q h. same_place (InDir d) (InDir d) e.child e.child q e.place (place_from (InDir d) e.child q h)) e.place (latest_single e.child e.place);
    flags = newest_same {P = λ g. Among g e.flags} {Q = HasFlag brought_by (InDir d) e.child} to_flag from_flag e.flags (newest_themselves e.flags sorted);
  }

-- ---- an entry that brings nothing

no_news : (fs gs : List Flag) → brings_news fs gs ≡ false → join_flags fs gs ≡ fs
no_news fs [] h = refl
no_news fs (g ∷ gs) h =
    let both = or_parts (is_new (flag_of fs g.server) g) (brings_news fs gs) h in
    ap (λ xs. join_flags xs gs) (old_flag fs g both.0) ∙ no_news fs gs both.1

entry_of_parts : (c : FileId) (p q : Place) (fs gs : List Flag) → p ≡ q → fs ≡ gs → ◌≡◌ {A = Entry} (record { child = c; place = p; flags = fs }) (record { child = c; place = q; flags = gs })
entry_of_parts c p q fs gs a b = cc

same_joined : (h e : Entry) → brings (Some h) e ≡ false → joined h e ≡ h
same_joined h e old =
    let both = or_parts (is_before h.place.stamp e.place.stamp) (brings_news h.flags e.flags) old in
    entry_of_parts h.child (newer_place h.place e.place) h.place (join_flags h.flags e.flags) h.flags
    (chosen_false (is_before h.place.stamp e.place.stamp) e.place h.place both.0) (no_news h.flags e.flags both.1)

nothing_new : (o : Option Entry) (e : Entry) → brings o e ≡ false → o ≡ Some (joined_to o e)
nothing_new None e old = absurd (false≢true (sym old))
nothing_new (Some h) e old = ap Some (sym (same_joined h e old))

none_new : (o : Option InodeValue) (e : Entry) (b : Attributes) → own_of o ≡ Some b → is_entry_new o e ≡ false → entry_in e.child o ≡ Some (joined_to (entry_in e.child o) e)
none_new None e b h old = absurd (none-some b h)
none_new (Some x) e b h old = nothing_new (entry_of x.entries e.child) e old

-- ---- an entry is taken by a directory that is held

module _ (a : Store) (d : FileId) (own : Attributes) (held : own_at a.names d ≡ Some own) (e : Entry) (sorted : IsByServer e.flags) where
  abbrev S : NamesValue
  S = a.names

  abbrev Comes : Store → Type 0
  Comes b = EntryComes S b.names (brought_by d e sorted) d e.child e

  abbrev Joined : NamesValue
  Joined = join_entry S d e

  other_cell : (q g : FileId) → ((q ≡ d) → (g ≡ e.child) → ⊥) → cell_at Joined q g ≡ cell_at S q g
  other_cell q g apart = elim (entry_at_one S d own held e q g) [
    | inl same ↦ same
    | inr one ↦ absurd (apart one.0 one.1)
  ]

  entry_new : Comes (put_entry a d e)
  entry_new = record {
    all = entry_all d e sorted;
    is = entry_is d e sorted;
    own = λ q. ap (or_blank q) (joined_own S d e q);
    cell = joined_same S d own e held;
    others = other_cell;
    stays = λ q h. held_by_keys S Joined (update_frame S d (with_joined e)).keys q h;
    was = λ q h. own_back S d (with_joined e) q h.0 h.1;
  }

  entry_old : is_newer_entry a d e ≡ false → Comes a
  entry_old old = record {
    all = entry_all d e sorted;
    is = entry_is d e sorted;
    own = λ q. refl;
    cell = none_new (known S d) e own held old;
    others = λ q g apart. refl;
    stays = λ q h. h;
    was = λ q h. h;
  }

  entry_comes : Comes (take_entry a d e)
  entry_comes = decided Comes (is_newer_entry a d e) (put_entry a d e) a (λ new. entry_new) entry_old

  -- AN ENTRY IS TAKEN
  pub taken_entry : (takes : List Take) → Tells S takes → Tells (take_entry a d e).names (entry_takes d e ++ takes)
  taken_entry takes k = entry_tells S (take_entry a d e).names takes (brought_by d e sorted) d e.child e k entry_comes
