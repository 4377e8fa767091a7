-- In every event of every run Confirms begin and stay by the rule of a step.
use Rattle.std.proofs.Common.{ℕ, ◌≡◌, ◌≤◌, false, cond, List, None, Some, inl, inr, refl, sym, ap, subst, ◌∙◌, eq-eqb, arith}
use Rattle.std.proofs.lemmas.Bool.{and_parts, false≢true}
use Rattle.theory_listing.specs.Protocol.{Lists}
use Rattle.theory_listing_house.specs.Listing.{cell_place}
use Rattle.theory_listing_house.proofs.Seen.{cell_is}
use Rattle.pg_run.specs.pg_base.declared.id.FileId.{FileId}
use Rattle.pg_run.specs.pg_base.Id.{is_same_file}
use Rattle.pg_run.proofs.pg_base.Orders.{is_same_file-refl, is_same_file-true}
use Rattle.pg_run.specs.pg_entries.declared.entry.Entry.{Entry}
use Rattle.pg_run.specs.pg_event.declared.event.Event.{Event}
use Rattle.pg_run.specs.pg_names.Names.{cell_at, is_dir}
use Rattle.pg_run.specs.pg_register.declared.place.Place.{Place}
use Rattle.pg_run.specs.pg_register.Place.{root}
use Rattle.pg_run.specs.pg_server.declared.input.Input.{Input}
use Rattle.pg_run.specs.pg_server.Local.{effect}
use Rattle.pg_run.specs.pg_store.declared.store.Store.{Store}
use Rattle.pg_run.specs.pg_store.Seen.{view_of}
use Rattle.pg_run.specs.Run.{Step, Taking, next, run}
use Rattle.pg_run.proofs.Frame.{acts_is, next_is}
use Rattle.law_listings.specs.Laws.{ListingsStandOn}
use Rattle.law_listings.specs.Letters.{letters, of_stores}
use Rattle.law_listings.proofs.Events.{IsStepBy}
use Rattle.law_listings.proofs.Runs.{all_kept, by_rule}
use Rattle.law_listings.proofs.Views.{away_none}
use Rattle.law_confirms.proofs.Told.{just_told}
use Rattle.law_confirms.specs.Confirms.{ConfirmsBeginAndStay, ConfirmsFollow, HadPlace, IsListedAway}

-- the directory lists the child, as the rule sees it
lists_of : (b : Store) (dir child : FileId) (e : Entry) → IsListedAway b dir child e
    → Lists of_stores b dir child e.place
lists_of b dir child e k =
    let both = and_parts e.place.live (is_same_file e.place.parent dir) k.listed in
    let parent = is_same_file-true e.place.parent dir both.1 in
    record {
      cell = ap cell_place k.cell;
      is_in = record {
        live = (both.0, ap is_dir parent ∙ k.directory);
        parent = parent;
        inner = λ same. false≢true (sym k.inner ∙ (ap (λ (x : FileId). is_same_file x root) same
            ∙ is_same_file-refl root));
      };
    }

had_place : (a : Store) (dir child : FileId) (place : Place)
    → of_stores.cell a dir child ≡ Some place → HadPlace a dir child place
had_place a dir child place same =
    let x = cell_is (cell_at a.names dir child) place same in (x.0, x.1, x.2)

module _ (n : ℕ) (k : ListingsStandOn n) (events : List Event) (event : Event) (s : ℕ)
    (asked : Input) where
  abbrev a : Store
  a = (run n events).stores s

  abbrev B : Store
  B = (effect a asked).store

  abbrev t : Taking
  t = record { server = s; asked = asked }

  -- whichever view is the last, the rule is kept
  module _ (r : (last : ℕ) → IsStepBy last (letters n events) s asked a (effect a asked))
      (dir child : FileId) (e : Entry) (away : IsListedAway B dir child e) where
    lists : Lists of_stores B dir child e.place
    lists = lists_of B dir child e away

    none : of_stores.own B child ≡ None
    none = away_none B child away.away

    follow : ConfirmsFollow a B asked dir child e
    follow =
        let now = r (view_of B) in
        let told = just_told (letters n events) s asked now.heard now.said dir child e.place in
        record {
          begins = elim (now.rule.listed_new dir child e.place lists none) [
            | inl same ↦ inl (had_place a dir child e.place same)
            | inr more ↦ elim more [
              | inl stands ↦ inr (inl stands)
              | inr just ↦ inr (inr (told just))
            ]
          ];
          stays = λ stood. elim (now.rule.confirm_ends dir child e.place stood lists none) [
            | inl stands ↦ inl stands
            | inr just ↦ inr (told just)
          ];
          enters = λ further. now.rule.enters further (let h : view_of B ≤ view_of B = omega arith in h)
              dir child e.place lists none;
        }

-- CONFIRMS BEGIN AND STAY
pub confirms_begin_and_stay : (n : ℕ) → ListingsStandOn n → ConfirmsBeginAndStay n
confirms_begin_and_stay n k events event s asked dir child e takes away =
    let w = run n events in
    let acts = acts_is n w event (t n k events event s asked) takes in
    let b = B n k events event s asked in
    let is : (next n w event).stores s ≡ b =
    ap (λ (z : Step). z.stores s) (next_is n w event (t n k events event s asked) takes)
    ∙ ap (λ u. cond u b (w.stores s)) (eq-eqb s s refl) in
    let r : (last : ℕ) → IsStepBy last (letters n events) s asked (w.stores s) (effect (w.stores s) asked) =
    λ last. by_rule n k events s acts.least acts.most event asked takes (letters n events)
    (all_kept n k events) last acts.came in
    subst (λ (z : Store). ConfirmsFollow (w.stores s) z asked dir child e) (sym is)
    (follow n k events event s asked r dir child e
    (subst (λ (z : Store). IsListedAway z dir child e) is away))
