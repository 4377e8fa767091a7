-- What holds behind the house rules.
use Rattle.std.proofs.Common.{◌≡◌, ℕ, Bool, true, false, not, cond, List, [], ◌∷◌, length, Option, None, Some, refl, sym, ap, ◌∙◌, subst, inl}
use Rattle.std.specs.List.{filter}
use Rattle.std.specs.Map.{lookup, keys_of}
use Rattle.std.specs.BTreeMap.{is_at}
use Rattle.std.proofs.lemmas.Option.{none-some}
use Rattle.std.proofs.lemmas.Bool.{or_left, or_right, not_from_false}
use Rattle.pg_base.specs.declared.id.FileId.{FileId}
use Rattle.pg_base.specs.Id.{is_same_file, file_cmp}
use Rattle.pg_base.proofs.Orders.{is_same_file-true, is_same_file-refl}
use Rattle.pg_register.specs.Place.{root, tilde_name}
use Rattle.pg_names.specs.declared.attributes.Attributes.{Attributes}
use Rattle.pg_names.specs.Names.{InodeValue, NamesValue, directories, is_dir, known, own_of, own_at}
use Rattle.pg_house.specs.Work.{State}
use Rattle.pg_house.specs.Passing.{pass_all}
use Rattle.pg_house.specs.Placing.{place_at, repeated}
use Rattle.pg_house.specs.Returning.{first_returning, is_root, return_first, returned}
use Rattle.pg_house.specs.Cycles.{break_first, first_moving, moved}
use Rattle.pg_house.specs.House.{house, movable}
use Rattle.pg_house.specs.Facts.{IsLast, IsOfDirs, IsPassed, AreByServer, NoCycle, NoDeadLists, OwnParent, Passing, HasPassed, is_among}
use Rattle.pg_house.proofs.Counting.{among_kept, kept_dir}
use Rattle.pg_house.proofs.AfterPassing.{AreDirs}
use Rattle.pg_house.proofs.Greatest.{cell_held}
use Rattle.pg_house.proofs.Passes.{AllPass, all_pass, all_passed}
use Rattle.pg_house.proofs.Times.{all_last}
use Rattle.pg_house.proofs.Keys.{rules_keys}
use Rattle.pg_house.proofs.Repeating.{repeated_keeps}
use Rattle.pg_house.proofs.Placed.{Settled, placed_settled}
use Rattle.pg_house.proofs.AllReturned.{all_returned, no_dead_lists}
use Rattle.pg_house.proofs.NoCycles.{KeepsAll, all_broken, no_cycles}

-- ---- what is held is among the keys

key_at : (f : FileId) (e : FileId × InodeValue) (es : List (FileId × InodeValue)) (x : InodeValue) (t : Bool) → is_at (file_cmp f) e.0 ≡ t → cond t (Some e.1) (lookup (is_at (file_cmp f)) es) ≡ Some x → ((lookup (is_at (file_cmp f)) es ≡ Some x) → is_among f (keys_of es) ≡ true) → is_among f (keys_of (e ∷ es)) ≡ true
key_at f e es x true h g rest = or_left (is_same_file e.0 f) _ (ap (λ q. is_same_file q f) (sym (is_same_file-true f e.0 h)) ∙ is_same_file-refl f)
key_at f e es x false h g rest = or_right (is_same_file e.0 f) _ (rest g)

key_there : (f : FileId) (es : List (FileId × InodeValue)) (x : InodeValue) → lookup (is_at (file_cmp f)) es ≡ Some x → is_among f (keys_of es) ≡ true
key_there f [] x h = absurd (none-some x h)
key_there f (e ∷ es) x h = key_at f e es x (is_at (file_cmp f) e.0) refl h (key_there f es x)

held_key : (s : NamesValue) (f : FileId) (o : Option InodeValue) (b : Attributes) → known s f ≡ o → own_of o ≡ Some b → is_among f (keys_of s.held) ≡ true
held_key s f None b h g = absurd (none-some b g)
held_key s f (Some x) b h g = key_there f s.held x h

pub key_of_held : (s : NamesValue) (f : FileId) (b : Attributes) → own_at s f ≡ Some b → is_among f (keys_of s.held) ≡ true
key_of_held s f b h = held_key s f (known s f) b refl h

-- ---- a rule leaves no file behind

returned_settled : (moment : ℕ) (ds : List FileId) (st : State) (o : Option FileId) → Settled ds st.names → Settled ds (returned moment ds st o).names
returned_settled moment ds st None k = k
returned_settled moment ds st (Some d) k = placed_settled moment ds st d (place_at st.names d).parent (place_at st.names d).name k

moved_settled : (moment : ℕ) (ds : List FileId) (st : State) (o : Option FileId) → Settled ds st.names → Settled ds (moved moment ds st o).names
moved_settled moment ds st None k = k
moved_settled moment ds st (Some d) k = placed_settled moment ds st d root (tilde_name d) k

-- ---- from the start to the end

module _ (moment : ℕ) (st : State) (of_dirs : IsOfDirs st.names) (sorted : AreByServer st.names) where
  abbrev Ds : List FileId
  Ds = directories st.names

  pub first_dirs : AreDirs st.names Ds
  first_dirs = record {
    cells = λ q g c h. let held = cell_held st.names q g c h in among_kept is_dir (keys_of st.names.held) q (key_of_held st.names q held.0 held.1) (of_dirs q g c h);
    held = λ q b h d. among_kept is_dir (keys_of st.names.held) q (key_of_held st.names q b h) d;
    sorted = sorted;
  }

  abbrev pub One : State
  One = pass_all st Ds (movable st.names)

  one_pass : AllPass Ds st.names One.names
  one_pass = all_pass st Ds (movable st.names) first_dirs

  passed_at : (g : FileId) → is_same_file g root ≡ false → HasPassed One.names Ds g
  passed_at g apart own h =
      let was = one_pass.was g (own, h) in
      let among = among_kept (λ f. not (is_root f)) (keys_of st.names.held) g (key_of_held st.names g was.0 was.1) (not_from_false (is_root g) apart) in
      all_passed st Ds (movable st.names) first_dirs g (inl among) own h

  pub one_settled : Settled Ds One.names
  one_settled = record { dirs = one_pass.dirs; passed = passed_at }

  module _ (last : IsLast st.names) where
    pub one_last : IsLast One.names
    one_last = all_last st Ds (movable st.names) first_dirs last

    abbrev pub Two : State
    Two = repeated (length Ds) (return_first moment Ds) One

    pub two_all : KeepsAll moment Ds Two
    two_all = let two = all_returned moment Ds One (one_settled, one_last) in (two.0.0, two.0.1, no_dead_lists Ds Two.names two.0.0 two.1)

    -- no dead directory lists a child, no live ones stand in a cycle, and no stamp is later than
    -- the greatest time
    pub end_all : KeepsAll moment Ds (house moment st)
    end_all = (all_broken moment Ds Two two_all).0

    pub no_dead_directory_lists : NoDeadLists (house moment st).names
    no_dead_directory_lists = end_all.2

    pub no_cycle : NoCycle (house moment st).names
    no_cycle = let three = all_broken moment Ds Two two_all in no_cycles Ds (house moment st).names three.0.0 three.1

    -- and no directory is to move
    pub none_moves_at : first_moving (house moment st).names (length Ds) None Ds ≡ None
    none_moves_at = (all_broken moment Ds Two two_all).1

    pub is_last : IsLast (house moment st).names
    is_last = end_all.1

  -- every file has passed
  end_settled : Settled Ds (house moment st).names
  end_settled =
      repeated_keeps (λ (t : State). Settled Ds t.names) (break_first moment Ds) (λ t k. moved_settled moment Ds t (first_moving t.names (length Ds) None Ds) k) (length Ds) _
      (repeated_keeps (λ (t : State). Settled Ds t.names) (return_first moment Ds) (λ t k. returned_settled moment Ds t (first_returning t.names Ds) k) (length Ds) One one_settled)

  pub same_dirs : directories (house moment st).names ≡ Ds
  same_dirs = ap (filter is_dir) (rules_keys moment st)

  pub passing : Passing (house moment st).names
  passing f own h apart = subst (λ ds. IsPassed (house moment st).names ds f own) (sym same_dirs) (end_settled.passed f apart own h).0

  pub own_parent : OwnParent (house moment st).names
  own_parent f own h apart = (end_settled.passed f apart own h).1

  -- and only directories have entries
  pub is_of_dirs : IsOfDirs (house moment st).names
  is_of_dirs q g c h = kept_dir is_dir (keys_of st.names.held) q (end_settled.dirs.cells q g c h)

  -- and the flags are by server
  pub by_server : AreByServer (house moment st).names
  by_server q b h = end_settled.dirs.sorted q b h
