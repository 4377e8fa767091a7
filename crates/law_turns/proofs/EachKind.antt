-- Each kind of intention begins behind the others, and asks its first target.
use Rattle.std.proofs.Common.{ℕ, ◌≡◌, ◌<◌, ◌++◌, suc, List, [], ◌∷◌, Option, None, Some, is_some, inl, inr, refl, sym, ap, subst, ◌∙◌, arith}
use Rattle.std.specs.List.{AllByRecursion}
use Rattle.std.specs.declared.cmp.Ordering.TheVariants.{Less}
use Rattle.pg_run.specs.pg_base.declared.id.FileId.{FileId}
use Rattle.pg_run.specs.pg_intent.declared.intent.Intent.{Intent}
use Rattle.pg_run.specs.pg_intent.declared.intent.Intent.TheVariants as intent
use Rattle.pg_run.specs.pg_intent.declared.key.IntentKey.{IntentKey}
use Rattle.pg_run.specs.pg_intent.declared.key.IntentKey.TheVariants as key
use Rattle.pg_run.specs.pg_intent.Intent.{aimed_at, key_of}
use Rattle.pg_run.specs.pg_intent.Intents.{begun}
use Rattle.pg_run.specs.pg_intent.Key.{key_cmp, rank}
use Rattle.pg_run.specs.pg_intentions.Confirms.{begin_confirm, confirm_of, holder, is_doubtful}
use Rattle.pg_run.specs.pg_intentions.Fills.{begin_fill, fill_of, with_fill_birth, without_wished}
use Rattle.pg_run.specs.pg_intentions.Intending.{begin_intent, each}
use Rattle.pg_run.specs.pg_intentions.Patches.{begin_patch, patch_of}
use Rattle.pg_run.specs.pg_intentions.Seeks.{aim_seek, begin_seek, has_seek, seek_again, seek_target, was_linked}
use Rattle.pg_run.specs.pg_msg.declared.work.Slot.{Slot}
use Rattle.pg_run.specs.pg_msg.declared.work.Work.{Work}
use Rattle.pg_run.specs.pg_names.Names.{NamesValue}
use Rattle.pg_run.specs.pg_pieces.Done.{Done, idle}
use Rattle.pg_run.specs.pg_replica.Replicas.{ByFile}
use Rattle.pg_run.specs.pg_store.declared.store.Store.{Store}
use Rattle.pg_run.specs.pg_store.declared.wishes.Wish.{Wish}
use Rattle.pg_run.specs.pg_store.Births.{fill_at, wish_at}
use Rattle.pg_run.specs.pg_store.Servers.{first_target}
use Rattle.pg_run.specs.pg_store.Store.{is_held}
use Rattle.pg_run.proofs.pg_intentions.Steady.{IsSteady, stays_on}
use Rattle.pg_run.proofs.theory_flood_pieces.Choices.{chosen, decided}
use Rattle.law_turns.proofs.Aims.{IsAimed}
use Rattle.law_turns.proofs.Shapes.{Before, More, Parts, aims_keep, begun_more, in_place, no_more, rank_less}
use Rattle.law_turns.proofs.Sorting.{Rising}

-- what began is of lesser kinds than this
abbrev pub Bounded : ℕ → List Intent → Type 0
Bounded r new = AllByRecursion (λ i. rank (key_of i) < r) new

module _ (Old : IntentKey → Type 0) (ref : Store) (begin : Work) where
  abbrev First : Intent → Type 0
  First i = IsAimed ref begin.from i

  abbrev pub Split : List Intent → Type 0
  Split is = Parts Old First is

  -- what targets are read of is as it was
  abbrev pub Steady : Store → Work → Type 0
  Steady s w = IsSteady ref begin (idle s w)

  abbrev Then : (is : List Intent) (p : Split is) → IntentKey → Store → Type 0
  Then is p k s = More Old First p.new k s.intents

  -- ---- targets

  first_is : (s : Store) (w : Work) → Steady s w → first_target s w.from ≡ first_target ref begin.from
  first_is s w k =
      let target : NamesValue → ℕ → ℕ → ℕ = λ n v f. first_target (record ref { names = n; servers = v }) f in
      λ i. target (k.names i) (k.servers i) (k.from i)

  seek_is : (s : Store) (w : Work) (f : FileId) → Steady s w → seek_target s f ≡ seek_target ref f
  seek_is s w f k =
      let target : NamesValue → ByFile → ℕ → ℕ = λ n r v. seek_target (record ref { names = n; replicas = r; servers = v }) f in
      λ i. target (k.names i) (k.replicas i) (k.servers i)

  pub holder_is : (s : Store) (w : Work) (dir child : FileId) → Steady s w → holder s dir child ≡ holder ref dir child
  holder_is s w dir child k =
      let target : NamesValue → ℕ → ℕ = λ n v. holder (record ref { names = n; servers = v }) dir child in
      λ i. target (k.names i) (k.servers i)

  -- and so the first targets of all
  pub targets_are : (s : Store) (w : Work) → Steady s w → w.from ≡ begin.from → (i : Intent) → IsAimed ref begin.from i → IsAimed s begin.from i
  targets_are s w k same (intent.Bye file birth peer peer_birth) h = tt
  targets_are s w k same (intent.Patch dir entry target) h = h ∙ sym (first_is s w k) ∙ ap (first_target s) same
  targets_are s w k same (intent.Fill file birth target) h = h ∙ sym (first_is s w k) ∙ ap (first_target s) same
  targets_are s w k same (intent.Seek file target) h = h ∙ sym (seek_is s w file k)
  targets_are s w k same (intent.Confirm dir child target) h = h ∙ sym (holder_is s w dir child k)
  targets_are s w k same (intent.Leave file peer peer_birth) h = tt

  -- ---- one of each kind

  abbrev slot_key : (FileId → FileId → IntentKey) → Slot → IntentKey
  slot_key kind slot = kind slot.dir slot.child

  pub patch_one : (s : Store) (slot : Slot) (w : Work) → Steady s w → (p : Split s.intents) → Before (slot_key key.Patch slot) p.new
      → More Old First p.new (slot_key key.Patch slot) (begin_patch s slot w).store.intents
  patch_one s slot w k p before =
      chosen (λ (d : Done). Then s.intents p (slot_key key.Patch slot) d.store) (is_held s slot.dir) (idle s w) (begin_intent s (patch_of s slot w) w)
      (no_more Old First s.intents p (slot_key key.Patch slot))
      (begun_more Old First s.intents p (patch_of s slot w) (first_is s w k) before)

  pub confirm_one : (s : Store) (slot : Slot) (w : Work) → Steady s w → (p : Split s.intents) → Before (slot_key key.Confirm slot) p.new
      → More Old First p.new (slot_key key.Confirm slot) (begin_confirm s slot w).store.intents
  confirm_one s slot w k p before =
      chosen (λ (d : Done). Then s.intents p (slot_key key.Confirm slot) d.store) (is_doubtful s slot.dir slot.child)
      (begin_intent s (confirm_of s slot) w) (idle s w)
      (begun_more Old First s.intents p (confirm_of s slot) (holder_is s w slot.dir slot.child k) before)
      (no_more Old First s.intents p (slot_key key.Confirm slot))

  pub seek_one : (s : Store) (f : FileId) (w : Work) → Steady s w → (p : Split s.intents) → Before (key.Seek f) p.new
      → More Old First p.new (key.Seek f) (begin_seek s f w).store.intents
  seek_one s f w k p before =
      let i = intent.Seek f (seek_target s f) in
      let P : Done → Type 0 = λ d. Then s.intents p (key.Seek f) d.store in
      decided P (has_seek s f) (idle (seek_again s f w) w) (begin_intent s i w)
      (λ stands.
      chosen (λ (b : Store). Then s.intents p (key.Seek f) b) (was_linked w.linked f) (aim_seek s f) s
      (in_place Old First s.intents p (key.Seek f) (aimed_at (seek_target s f)) (aims_keep (seek_target s f)) before stands)
      (no_more Old First s.intents p (key.Seek f)))
      (λ none. begun_more Old First s.intents p i (seek_is s w f k) before)

  -- a birth that is given out, or a wish that ends, leaves the rest as it is
  record Same (a b : Store) : Type 0 where
    intents : b.intents ≡ a.intents
    names : b.names ≡ a.names
    servers : b.servers ≡ a.servers

  wished_same : (s : Store) (f : FileId) (o : Option Wish) → Same s (without_wished s f o)
  wished_same s f None = record { intents = refl; names = refl; servers = refl }
  wished_same s f (Some wish) = record { intents = refl; names = refl; servers = refl }

  birth_same : (s : Store) (f : FileId) → Same s (with_fill_birth s f)
  birth_same s f =
      chosen (Same s) (is_held s f) s (without_wished s f (wish_at s f)) (record { intents = refl; names = refl; servers = refl })
      (wished_same s f (wish_at s f))

  fill_first : (s : Store) (f : FileId) (w : Work) → Steady s w → first_target (with_fill_birth s f) w.from ≡ first_target ref begin.from
  fill_first s f w k =
      let b = birth_same s f in
      let target : NamesValue → ℕ → ℕ = λ n v. first_target (record s { names = n; servers = v }) w.from in
      (λ i. target (b.names i) (b.servers i)) ∙ first_is s w k

  pub fill_one : (s : Store) (f : FileId) (w : Work) → Steady s w → (p : Split s.intents) → Before (key.Fill f) p.new
      → More Old First p.new (key.Fill f) (begin_fill s f w).store.intents
  fill_one s f w k p before =
      let b = with_fill_birth s f in
      let i = fill_of s f w in
      chosen (λ (d : Done). Then s.intents p (key.Fill f) d.store) (is_some (fill_at s f)) (idle s w) (begin_intent b i w)
      (no_more Old First s.intents p (key.Fill f))
      (subst (λ (is : List Intent). More Old First p.new (key.Fill f) (begun is i)) (sym (birth_same s f).intents)
      (begun_more Old First s.intents p i (fill_first s f w k) before))

  -- ---- many

  module _ {A : Type 0} (step : Store → A → Work → Done) (name : A → IntentKey) (r : ℕ)
      (kind : (x : A) → rank (name x) ≡ r)
      (stays : (s : Store) (x : A) (w : Work) → IsSteady s w (step s x w))
      (one : (s : Store) (x : A) (w : Work) → Steady s w → (p : Split s.intents) → Before (name x) p.new
      → More Old First p.new (name x) (step s x w).store.intents) where
    abbrev AllBefore : List A → List Intent → Type 0
    AllBefore xs new = AllByRecursion (λ x. Before (name x) new) xs

    pushed : (new : List Intent) (i : Intent) (y : A) → Before (name y) new → key_cmp (key_of i) (name y) ≡ Less → Before (name y) (new ++ i ∷ [])
    pushed [] i y before h = (h, tt)
    pushed (j ∷ js) i y before h = (before.0, pushed js i y before.1 h)

    all_pushed : (x : A) (new : List Intent) (i : Intent) → key_of i ≡ name x → (xs : List A) → AllByRecursion (λ y. key_cmp (name x) (name y) ≡ Less) xs
        → AllBefore xs new → AllBefore xs (new ++ i ∷ [])
    all_pushed x new i same [] above before = tt
    all_pushed x new i same (y ∷ ys) above before =
        (pushed new i y before.0 (ap (λ k. key_cmp k (name y)) same ∙ above.0), all_pushed x new i same ys above.1 before.1)

    bound_pushed : (new : List Intent) (i : Intent) → rank (key_of i) < suc r → Bounded (suc r) new → Bounded (suc r) (new ++ i ∷ [])
    bound_pushed [] i h bound = (h, tt)
    bound_pushed (j ∷ js) i h bound = (bound.0, bound_pushed js i h bound.1)

    -- what is left comes behind what began, and so does all that is of a further kind
    abbrev Ends : List Intent → Type 0
    Ends is = (q : Split is) × Bounded (suc r) q.new

    next : (x : A) (xs : List A) (is : List Intent) (new : List Intent) (m : More Old First new (name x) is)
        → AllByRecursion (λ y. key_cmp (name x) (name y) ≡ Less) xs → AllBefore xs new → Bounded (suc r) new
        → AllBefore xs m.now.new × Bounded (suc r) m.now.new
    next x xs is new m above before bound = elim m.grows [
      | inl same ↦ (subst (AllBefore xs) (sym same) before, subst (Bounded (suc r)) (sym same) bound)
      | inr more ↦ (
          let rank_is : rank (key_of more.0) ≡ r = ap rank more.1 ∙ kind x in
          subst (λ (js : List Intent). AllBefore xs js × Bounded (suc r) js) (sym more.2)
          (all_pushed x new more.0 more.1 xs above before, bound_pushed new more.0 (omega (arith, rank_is)) bound))
    ]

    each_one : (xs : List A) (s : Store) (w : Work) → Steady s w → (p : Split s.intents) → Rising name xs → AllBefore xs p.new → Bounded (suc r) p.new
        → Ends (each step s xs w).store.intents
    each_one [] s w k p rises before bound = (p, bound)
    each_one (x ∷ xs) s w k p rises before bound =
        let d = step s x w in
        let m = one s x w k p before.0 in
        let n = next x xs d.store.intents p.new m rises.0 before.1 bound in
        each_one xs d.store d.work (stays_on k (stays s x w)) m.now rises.1 n.0 n.1

    lesser : (new : List Intent) (x : A) → Bounded r new → Before (name x) new
    lesser [] x bound = tt
    lesser (i ∷ is) x bound =
        let rank_is = kind x in
        let below = bound.0 in
        (rank_less (key_of i) (name x) (omega (arith, rank_is, below)), lesser is x bound.1)

    all_lesser : (xs : List A) (new : List Intent) → Bounded r new → AllBefore xs new
    all_lesser [] new bound = tt
    all_lesser (x ∷ xs) new bound = (lesser new x bound, all_lesser xs new bound)

    wider : (new : List Intent) → Bounded r new → Bounded (suc r) new
    wider [] bound = tt
    wider (i ∷ is) bound = (let below = bound.0 in omega (arith, below), wider is bound.1)

    pub kind_begins : (xs : List A) (s : Store) (w : Work) → Steady s w → (p : Split s.intents) → Rising name xs → Bounded r p.new
        → Ends (each step s xs w).store.intents
    kind_begins xs s w k p rises bound = each_one xs s w k p rises (all_lesser xs p.new bound) (wider p.new bound)
