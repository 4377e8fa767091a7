-- What one input leaves told: what it brings, and what was told before of the replicas that stay.
use Rattle.std.proofs.Common.{◌≡◌, ℕ, Bool, true, false, cond, List, ◌++◌, map, ◌⊎◌, inl, inr, sym, ap, subst, ◌∙◌}
use Rattle.std.proofs.lemmas.List.{map-append}
use Rattle.pg_content.specs.Content.{Among}
use Rattle.pg_server.specs.pg_pieces.pg_store.declared.store.Store.{Store}
use Rattle.pg_server.specs.declared.input.Input.{Input}
use Rattle.pg_server.specs.Local.{effect, takes_effect}
use Rattle.pg_run.specs.Asking.{Asked}
use Rattle.pg_run.specs.Carried.{gone_in}
use Rattle.pg_run.specs.Took.{Take, take_of, without_gone}
use Rattle.pg_run.specs.Passed.{passed, passed_with}
use Rattle.pg_run.specs.Run.{brought, first_made, made_behind, removed_then}
use Rattle.pg_run.specs.Came.{all_brought}
use Rattle.pg_run.proofs.Lists.{among_back, among_front, among_parts}
use Rattle.pg_run.proofs.Knowing.{Tells, Within, made_within, passed_within, tells_parts, told_itself, told_on, within_back, within_made, within_parts, within_passed, within_then}
use Rattle.pg_run.proofs.Gone.{left_within}
use Rattle.pg_run.proofs.Makes.{is_made_in_parts}
use Rattle.pg_run.proofs.Striking.{made_brought}

module _ (store : Store) (wants : Asked) (takes : List Take) (asked : Input) where
  abbrev Removed : List ℕ
  Removed = removed_then store asked

  -- what is left of them
  abbrev Left : List Take
  Left = without_gone (gone_in store asked) takes

  abbrev First : List Take
  First = brought store wants asked ++ Left

  abbrev Behind : List Take
  Behind = map take_of (made_behind store asked)

  abbrev End : List Take
  End = passed_with Removed (passed Removed First) (made_behind store asked)

  abbrev Made : List Take
  Made = map take_of (effect store asked).out.made

  abbrev All : List Take
  All = all_brought store wants asked

  made_parts : Made ≡ map take_of (first_made store asked) ++ Behind
  made_parts = ap (map take_of) (is_made_in_parts store asked) ∙ map-append take_of (first_made store asked) (made_behind store asked)

  behind_came : (u : Take) → Among u Behind → Among u All
  behind_came u k =
      among_back u (brought store wants asked) Made
      (subst (λ (us : List Take). Among u us) (sym made_parts) (among_back u (map take_of (first_made store asked)) Behind k))

  -- nothing else is known at the end
  end_within : Within End (All ++ Left)
  end_within =
      within_then End (Behind ++ passed Removed First) (All ++ Left)
      (made_within Removed (made_behind store asked) (passed Removed First))
      (within_parts Behind (passed Removed First) (All ++ Left)
      (λ u k. told_itself u (All ++ Left) (among_front u All Left (behind_came u k)))
      (within_then (passed Removed First) First (All ++ Left) (passed_within Removed First)
      (within_parts (brought store wants asked) Left (All ++ Left)
      (λ u k. told_itself u (All ++ Left) (among_front u All Left (among_front u (brought store wants asked) Made k)))
      (within_back All Left))))

  -- and nothing that is left is forgotten
  first_within : Within First End
  first_within =
      within_then First (passed Removed First) End (within_passed Removed First)
      (within_then (passed Removed First) (Behind ++ passed Removed First) End (within_back Behind (passed Removed First))
      (within_made Removed (made_behind store asked) (passed Removed First)))

  behind_within : Within Behind End
  behind_within u k =
      within_made Removed (made_behind store asked) (passed Removed First) u (among_front u Behind (passed Removed First) k)

  brought_within : Within (brought store wants asked) End
  brought_within u k = first_within u (among_front u (brought store wants asked) Left k)

  came_within : Within All End
  came_within =
      within_parts (brought store wants asked) Made End brought_within
      (λ u k. elim (among_parts u (map take_of (first_made store asked)) Behind (subst (λ (us : List Take). Among u us) made_parts k)) [
        | inl first ↦ told_on (brought store wants asked) End brought_within u (made_brought store wants asked u first)
        | inr behind ↦ behind_within u behind
      ])

  kept_within : Within Left End
  kept_within u k = first_within u (among_back u (brought store wants asked) Left k)

  -- ---- where it takes effect

  -- it was told before, and is left; or it comes
  pub told_at : (u : Take) (t : Bool) → takes_effect store asked ≡ t → Tells (cond t End takes) u
      → (Tells takes u × (takes_effect store asked ≡ true → Tells Left u))
      ⊎ ((takes_effect store asked ≡ true) × Tells All u)
  told_at u false e told = inl (told, λ going. absurd (let z : false ≡ true = sym e ∙ going in cc))
  told_at u true e told = elim (tells_parts u All Left (told_on End (All ++ Left) end_within u told)) [
    | inl came ↦ inr (e, came)
    | inr old ↦ inl (told_on Left takes (left_within (gone_in store asked) takes) u old, λ going. old)
  ]

  pub kept_at : (u : Take) (t : Bool) → takes_effect store asked ≡ t → Tells takes u
      → (takes_effect store asked ≡ true → Tells Left u) → Tells (cond t End takes) u
  kept_at u false e told left = told
  kept_at u true e told left = told_on Left End kept_within u (left e)

  pub gained_at : (u : Take) (t : Bool) → t ≡ true → Tells All u → Tells (cond t End takes) u
  gained_at u true e told = told_on All End came_within u told
  gained_at u false e told = absurd (let z : false ≡ true = e in cc)
