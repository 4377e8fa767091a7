-- Who is asked is another live server of the run, or nobody.
use Rattle.std.proofs.Common.{[], ℕ, ◌≡◌, ◌≢◌, ◌==◌, ◌&&◌, Bool, true, false, cond, not, nat_le, List, ◌∷◌, Option, None, Some, refl, sym, ap, subst, ◌∙◌, All}
use Rattle.std.specs.List.{find}
use Rattle.std.specs.Option.{option_map, unwrap_or}
use Rattle.std.proofs.lemmas.Bool.{and_parts, le-leb, leb-true, ne_eqb, not-true}
use Rattle.std.proofs.lemmas.List.Elements.{All-head, All-tail}
use Rattle.std.proofs.lemmas.Option.{none-some, same_Some}
use Rattle.law_frame.specs.pg_run.pg_base.declared.id.FileId.{FileId}
use Rattle.law_frame.specs.pg_run.pg_entries.declared.entry.Entry.{Entry}
use Rattle.law_frame.specs.pg_run.pg_intent.Target.{IsLiveOther}
use Rattle.law_frame.specs.pg_run.pg_intent.Target.{next_target as next_of}
use Rattle.law_frame.proofs.pg_run.pg_intent.Above.{next_lives, not_equal}
use Rattle.law_frame.specs.pg_run.pg_names.Names.{cell_at}
use Rattle.law_frame.specs.pg_run.pg_register.declared.flag.Flag.{Flag}
use Rattle.law_frame.specs.pg_run.pg_register.Flag.{first_other_gold, is_live, is_removed}
use Rattle.law_frame.specs.pg_run.pg_register.Flag.{is_live_other as is_live_other_flag}
use Rattle.law_frame.specs.pg_run.pg_store.declared.store.Store.{Store}
use Rattle.law_frame.specs.pg_run.pg_store.Seen.{removed_of, server_of}
use Rattle.law_frame.specs.pg_run.pg_store.Servers.{next_target}
use Rattle.law_frame.specs.pg_run.pg_store.Servers.{is_live_other as is_live_other_at}
use Rattle.law_frame.specs.pg_run.pg_lookup.declared.paths.Found.{Found}
use Rattle.law_frame.specs.pg_run.pg_checks.Asking.{cell_in, dir_by, gold_of, holder}
use Rattle.law_views.proofs.Seen.{IsSeen, IsTarget}
use Rattle.law_views.specs.Premises.{FlagsAreOf, IsFlagOf}

module _ (n s : ℕ) (R : List ℕ) where
  abbrev pub Asked : ℕ → Type 0
  Asked t = t ≢ 0 → IsTarget n s R t

  next_asked : (t : ℕ) → Asked (next_of n s R t)
  next_asked t = next_lives n s R t

  pub next_of_live : (a : Store) → a.servers ≡ n → server_of a ≡ s → removed_of a ≡ R → (t : ℕ) → Asked (next_target a t)
  next_of_live a servers server removed t =
      subst (λ (m : ℕ). Asked (next_of m (server_of a) (removed_of a) t)) (sym servers)
      (subst (λ (j : ℕ). Asked (next_of n j (removed_of a) t)) (sym server)
      (subst (λ (gone : List ℕ). Asked (next_of n s gone t)) (sym removed) (next_asked t)))

  pub next_live : (a : Store) → IsSeen n s R a → (t : ℕ) → Asked (next_target a t)
  next_live a k t = next_of_live a k.servers k.server k.removed t

  -- ---- whom a call asks

  found_gold : (flags : List Flag) (t : ℕ) → All (IsFlagOf n) flags → first_other_gold s R flags ≡ Some t → IsTarget n s R t
  found_gold [] t all h = absurd (none-some t h)
  found_gold (flag ∷ flags) t all h =
      by (is_live_other_flag s R flag) refl (found_gold flags t (All-tail (IsFlagOf n) flag flags all)) h
    where
      by : (u : Bool) → is_live_other_flag s R flag ≡ u → (first_other_gold s R flags ≡ Some t → IsTarget n s R t)
          → option_map (λ (f : Flag). f.server) (cond u (Some flag) (find (is_live_other_flag s R) flags)) ≡ Some t → IsTarget n s R t
      by true is more e =
          let here = All-head (IsFlagOf n) flag flags all in
          let parts = and_parts (is_live R flag) (not (flag.server == s)) is in
          let live = and_parts flag.raised (not (is_removed R flag.server)) parts.0 in
          subst (IsTarget n s R) (same_Some flag.server t e) (record {
            from = here.least;
            upto = here.most;
            differs = not_equal flag.server s parts.1;
            stays = not-true (is_removed R flag.server) live.1;
          })
      by false is more e = more e

  module _ (a : Store) (k : IsSeen n s R a) (flags : FlagsAreOf n a.names) where
    same_gold : (fs : List Flag) → first_other_gold (server_of a) (removed_of a) fs ≡ first_other_gold s R fs
    same_gold fs =
        ap (λ (j : ℕ). first_other_gold j (removed_of a) fs) k.server
        ∙ ap (λ (gone : List ℕ). first_other_gold s gone fs) k.removed

    gold_by : (e : Entry) → All (IsFlagOf n) e.flags → (o : Option ℕ) → first_other_gold (server_of a) (removed_of a) e.flags ≡ o
        → Asked (unwrap_or o (next_target a (server_of a)))
    gold_by e all None is = next_live a k (server_of a)
    gold_by e all (Some t) is = λ some. found_gold e.flags t all (sym (same_gold e.flags) ∙ is)

    cell_by : (dir file : FileId) (o : Option Entry) → cell_at a.names dir file ≡ o
        → Asked (unwrap_or (gold_of a.names o) (next_target a (server_of a)))
    cell_by dir file None is = next_live a k (server_of a)
    cell_by dir file (Some e) is =
        gold_by e (flags dir file e is) (first_other_gold (server_of a) (removed_of a) e.flags) refl

    dir_asked : (file : FileId) (o : Option FileId)
        → Asked (unwrap_or (gold_of a.names (cell_in a.names file o)) (next_target a (server_of a)))
    dir_asked file None = next_live a k (server_of a)
    dir_asked file (Some dir) = cell_by dir file (cell_at a.names dir file) refl

    pub holder_asked : (found : Found) → Asked (holder a found)
    holder_asked found = dir_asked found.file (dir_by a.names found.file found.way)

-- ---- another live one, as a test

pub live_parts : (a : Store) (t : ℕ) → is_live_other_at a t ≡ true → IsLiveOther a.servers (server_of a) (removed_of a) t
live_parts a t h =
    let one = and_parts (nat_le 1 t) (nat_le t a.servers && (not (t == server_of a) && not (is_removed (removed_of a) t))) h in
    let two = and_parts (nat_le t a.servers) (not (t == server_of a) && not (is_removed (removed_of a) t)) one.1 in
    let three = and_parts (not (t == server_of a)) (not (is_removed (removed_of a) t)) two.1 in
    record {
      from = leb-true 1 t one.0;
      upto = leb-true t a.servers two.0;
      differs = not_equal t (server_of a) three.0;
      stays = not-true (is_removed (removed_of a) t) three.1;
    }

pub live_test : (a : Store) (t : ℕ) → IsLiveOther a.servers (server_of a) (removed_of a) t → is_live_other_at a t ≡ true
live_test a t k =
    let first : nat_le 1 t ≡ true = le-leb 1 t k.from in
    let upto : nat_le t a.servers ≡ true = le-leb t a.servers k.upto in
    let apart : (t == server_of a) ≡ false = ne_eqb t (server_of a) k.differs in
    ap (λ (x : Bool). x && (nat_le t a.servers && (not (t == server_of a) && not (is_removed (removed_of a) t)))) first
    ∙ ap (λ (x : Bool). x && (not (t == server_of a) && not (is_removed (removed_of a) t))) upto
    ∙ ap (λ (x : Bool). not x && not (is_removed (removed_of a) t)) apart
    ∙ ap not k.stays
