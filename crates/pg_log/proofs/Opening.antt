-- What a crash leaves of a log while it is opened.
use Rattle.std.proofs.Common.{◌≡◌, inl, inr, ℕ, ◌+◌, ◌-◌, ◌≤◌, List, [], ◌∷◌, ◌++◌, length, take, drop, replicate, Some, Result, refl, sym, ◌∙◌, ap, subst, arith, append_assoc, length-append}
use Rattle.std.proofs.lemmas.List.{take_at, drop_all}
use Rattle.pg_disk.specs.Disk.{Write, Cut, IsTorn, IsCutShort, MayMake, written, IsSettled}
use Rattle.pg_disk.specs.Told.{Told, steps, given}
use Rattle.pg_disk.specs.Moments.{LeavesOnly}
use Rattle.pg_disk.specs.Synced.{IsSynced}
use Rattle.pg_disk.proofs.Moments.{leaves_started, leaves_weaker}
use Rattle.pg_log.specs.Bytes.{start, front, AllFit, OpensTo, IsAtEnd}
use Rattle.pg_log.specs.Log.{Stands}
use Rattle.pg_log.proofs.Blocks.{closed_opens}
use Rattle.pg_log.proofs.Unique.{opens_once}
use Rattle.pg_log.proofs.Crash.{front_kept}

abbrev pub empty_log : List ℕ
empty_log = start ++ 0 ∷ []

-- nothing was done
pub moments_before : (old : Told) (entries : List (List ℕ)) → IsSettled (steps old 0) → OpensTo (given old 0) entries
    → LeavesOnly old.chosen 0 old.history old.history (λ file. OpensTo file entries)
moments_before old entries settled opens = leaves_started old.chosen 0 (λ file. OpensTo file entries) old.history
    (λ image is. subst (λ (f : List ℕ). OpensTo f entries) (sym (settled image is)) opens)

module _ (old new : Told) (short : length (given old 0) ≤ 17) where
  written_anew : written 0 empty_log (given old 0) ≡ empty_log
  written_anew =
      let no_gap : 0 - length (given old 0) ≡ 0 = omega arith in
      let none : drop 17 (given old 0) ≡ [] = drop_all 17 (given old 0) short in
      λ i. take 0 (given old 0) ++ replicate (no_gap i) 0 ++ empty_log ++ none i

  none_in_short : (entries : List (List ℕ)) → OpensTo (given old 0) entries → entries ≡ []
  none_in_short entries (inl is) = is.1
  none_in_short entries (inr long) = let l = long.0 in absurd (omega arith)

  torn_anew : (image : List ℕ) → IsTorn 0 empty_log (given old 0) image → OpensTo image []
  torn_anew image torn = inl (let l = ap length written_anew in let n = torn.no_longer in omega arith, refl)

  pub moments_anew : {E : Type 0} (result : Result (Unit {0}) E) (entries : List (List ℕ)) → IsSettled (steps old 0) → OpensTo (given old 0) entries
      → IsSynced result 0 (Write 0 empty_log) old new → LeavesOnly old.chosen 0 old.history new.history (λ file. OpensTo file entries)
  moments_anew result entries settled opens synced =
      leaves_weaker old.chosen 0 (MayMake (Write 0 empty_log) (given old 0)) (λ file. OpensTo file entries) old.history new.history
      (λ image torn. subst (λ (es : List (List ℕ)). OpensTo image es) (sym (none_in_short entries opens)) (torn_anew image torn))
      (synced.moments settled)

  pub stands_anew : given new 0 ≡ written 0 empty_log (given old 0) → IsSettled (steps new 0) → Stands (Some 16) new []
  stands_anew is settled = record {
    place = refl;
    gate = 0;
    closed = λ (e : 0 ≡ 1). omega arith;
    file = is ∙ written_anew;
    fit = tt;
    settled = settled;
  }

module _ (old new : Told) (records : List (List ℕ)) (place : ℕ) (is_place : place ≡ length (front records)) (fit : AllFit records) (tail : List ℕ) (file : given old 0 ≡ front records ++ tail) (end : IsAtEnd tail) where
  abbrev gate : ℕ
  gate = end.0

  spelled : given old 0 ≡ front records ++ gate ∷ end.1
  spelled = file ∙ ap (λ (l : List ℕ). front records ++ l) end.2

  pub opens_whole : OpensTo (given old 0) records
  opens_whole = subst (λ (f : List ℕ). OpensTo f records) (sym spelled) (closed_opens records gate end.1 end.3 fit)

  cut_is : take (place + 1) (given old 0) ≡ front records ++ gate ∷ []
  cut_is =
      ap (take (place + 1)) (spelled ∙ sym (append_assoc (front records) (gate ∷ []) end.1))
      ∙ take_at (front records ++ gate ∷ []) end.1 (place + 1) (omega (arith, is_place, length-append (front records) (gate ∷ [])))

  cut_opens : (image : List ℕ) → IsCutShort (place + 1) (given old 0) image → OpensTo image records
  cut_opens image cut = front_kept records gate image end.3 fit (ap (λ (k : ℕ). take (k + 1) image) (sym is_place) ∙ cut.before ∙ cut_is)

  pub moments_cut : {E : Type 0} (result : Result (Unit {0}) E) (entries : List (List ℕ)) → IsSettled (steps old 0) → OpensTo (given old 0) entries
      → IsSynced result 0 (Cut (place + 1)) old new → LeavesOnly old.chosen 0 old.history new.history (λ file. OpensTo file entries)
  moments_cut result entries settled opens synced =
      leaves_weaker old.chosen 0 (MayMake (Cut (place + 1)) (given old 0)) (λ file. OpensTo file entries) old.history new.history
      (λ image cut. subst (λ (es : List (List ℕ)). OpensTo image es) (opens_once (given old 0) records entries opens_whole opens) (cut_opens image cut))
      (synced.moments settled)

  pub stands_cut : given new 0 ≡ take (place + 1) (given old 0) → IsSettled (steps new 0) → Stands (Some place) new records
  stands_cut is settled = record {
    place = ap Some is_place;
    gate = gate;
    closed = end.3;
    file = is ∙ cut_is;
    fit = fit;
    settled = settled;
  }
