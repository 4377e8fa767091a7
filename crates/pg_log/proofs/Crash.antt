-- What a crash leaves of a log while an entry is added.
use Rattle.std.proofs.Common.{◌≡◌, ◌≢◌, inl, inr, ℕ, ◌+◌, ◌≤◌, min, List, [], ◌∷◌, ◌++◌, length, take, drop, get_or, Option, Some, Result, Ok, refl, sym, ◌∙◌, ap, subst, arith, append_assoc, length-append, take-append-drop}
use Rattle.std.proofs.lemmas.Bool.{cases_eq}
use Rattle.std.proofs.lemmas.List.{take_all, take_at, drop_at, drop_more}
use Rattle.pg_disk.specs.Disk.{Write, IsTorn, MayMake, written}
use Rattle.pg_disk.specs.Told.{Told, given}
use Rattle.pg_disk.specs.Moments.{LeavesOnly}
use Rattle.pg_disk.specs.Synced.{IsSynced}
use Rattle.pg_disk.proofs.Moments.{leaves_then, leaves_weaker}
use Rattle.pg_log.specs.Bytes.{front, AllFit, OpensTo}
use Rattle.pg_log.specs.Log.{Stands, OpensWithOrWithout}
use Rattle.pg_log.proofs.Blocks.{block_of, front-push, AllFit-push, closed_opens, written_end, written_one}

-- a file whose beginning, up to the closed gate, stays opens to the same entries
pub front_kept : (entries : List (List ℕ)) (gate : ℕ) (file : List ℕ) → gate ≢ 1 → AllFit entries → take (length (front entries) + 1) file ≡ front entries ++ gate ∷ [] → OpensTo file entries
front_kept entries gate file closed fit kept =
    let at : ℕ = length (front entries) + 1 in
    let whole : file ≡ front entries ++ gate ∷ drop at file =
    sym (take-append-drop at file) ∙ ap (λ (l : List ℕ). l ++ drop at file) kept ∙ append_assoc (front entries) (gate ∷ []) (drop at file) in
    subst (λ (f : List ℕ). OpensTo f entries) (sym whole) (closed_opens entries gate (drop at file) closed fit)

module _ (entries : List (List ℕ)) (entry : List ℕ) (gate : ℕ) (closed : gate ≢ 1) (fit : AllFit entries) (fits : length entry ≤ 65536) where
  abbrev at_rest : List ℕ
  at_rest = front entries ++ gate ∷ []

  -- the file with the entry behind the closed gate
  abbrev staged : List ℕ
  staged = front entries ++ gate ∷ block_of entry

  abbrev place : ℕ
  place = length (front entries)

  length-at_rest : length at_rest ≡ place + 1
  length-at_rest = length-append (front entries) (gate ∷ [])

  regrouped : at_rest ++ block_of entry ≡ staged
  regrouped = append_assoc (front entries) (gate ∷ []) (block_of entry)

  -- the closed gate stands in each outcome of the first write
  torn_behind : (file : List ℕ) → IsTorn (place + 1) (block_of entry) at_rest file → OpensTo file entries
  torn_behind file torn =
      let least : min (place + 1) (length at_rest) ≡ place + 1 = omega (arith, length-at_rest) in
      let kept : take (place + 1) file ≡ at_rest =
      ap (λ (k : ℕ). take k file) (sym least) ∙ torn.before ∙ take_all (min (place + 1) (length at_rest)) at_rest (omega (arith, length-at_rest)) in
      front_kept entries gate file closed fit kept

  staged_is : written (place + 1) (block_of entry) at_rest ≡ staged
  staged_is = written_end at_rest (block_of entry) (place + 1) (sym length-at_rest) ∙ regrouped

  opened_is : front entries ++ 1 ∷ block_of entry ≡ front (entries ++ entry ∷ []) ++ 0 ∷ []
  opened_is = sym (front-push entries entry (0 ∷ []))

  opens_with : OpensTo (front entries ++ 1 ∷ block_of entry) (entries ++ entry ∷ [])
  opens_with = subst (λ (f : List ℕ). OpensTo f (entries ++ entry ∷ [])) (sym opened_is)
      (closed_opens (entries ++ entry ∷ []) 0 [] (λ (e : 0 ≡ 1). omega arith) (AllFit-push entries entry fit fits))

  -- the entry stands whole behind any gate
  any_gate : (byte : ℕ) → OpensWithOrWithout entries entry (front entries ++ byte ∷ block_of entry)
  any_gate byte = elim (cases_eq byte 1) [
    | inl is ↦ inr (subst (λ (b : ℕ). OpensTo (front entries ++ b ∷ block_of entry) (entries ++ entry ∷ [])) (sym is) opens_with)
    | inr is_not ↦ inl (closed_opens entries byte (block_of entry) is_not fit)
  ]

  length-staged : length staged ≡ place + 1 + length (block_of entry)
  length-staged = omega (arith, length-append (front entries) (gate ∷ block_of entry))

  torn_gate : (file : List ℕ) → IsTorn place (1 ∷ []) staged file → OpensWithOrWithout entries entry file
  torn_gate file torn =
      let least : min place (length staged) ≡ place = omega (arith, length-staged) in
      let first : take place file ≡ front entries =
      ap (λ (k : ℕ). take k file) (sym least) ∙ torn.before ∙ ap (λ (k : ℕ). take k staged) least ∙ take_at (front entries) (gate ∷ block_of entry) place refl in
      let rest : drop (place + 1) file ≡ block_of entry =
      torn.behind ∙ ap (drop (place + 1)) (sym regrouped) ∙ drop_at at_rest (block_of entry) (place + 1) length-at_rest in
      let byte : ℕ = get_or file place 0 in
      let whole : file ≡ front entries ++ byte ∷ block_of entry =
      sym (take-append-drop place file) ∙ ap (λ (l : List ℕ). l ++ drop place file) first
      ∙ ap (λ (l : List ℕ). front entries ++ l) (drop_more file place 0 (omega (arith, torn.no_shorter, length-staged)) ∙ ap (λ (l : List ℕ). byte ∷ l) rest) in
      subst (OpensWithOrWithout entries entry) (sym whole) (any_gate byte)

  gate_is_open : written place (1 ∷ []) staged ≡ front (entries ++ entry ∷ []) ++ 0 ∷ []
  gate_is_open = written_one (front entries) (block_of entry) place gate 1 refl ∙ opened_is

  pub next_place : length (front (entries ++ entry ∷ [])) ≡ place + length (block_of entry)
  next_place =
      let same = ap length opened_is in
      omega (arith, same, length-append (front entries) (1 ∷ block_of entry), length-append (front (entries ++ entry ∷ [])) (0 ∷ []))

-- nothing was done yet
pub unchanged : {log : Option ℕ} {old : Told} {entries : List (List ℕ)} (entry : List ℕ) → Stands log old entries → (file : List ℕ) → file ≡ given old 0 → OpensWithOrWithout entries entry file
unchanged {entries = entries} entry stands file is = inl (subst (λ (f : List ℕ). OpensTo f entries) (sym (is ∙ stands.file)) (closed_opens entries stands.gate [] stands.closed stands.fit))

-- the entry is written behind the closed gate
staged_file : (entry : List ℕ) → length entry ≤ 65536 → (old mid : Told) (entries : List (List ℕ)) (at : ℕ) (block : List ℕ) {log : Option ℕ} (stands : Stands log old entries)
    → at ≡ length (front entries) + 1 → block ≡ block_of entry → given mid 0 ≡ written at block (given old 0)
    → given mid 0 ≡ front entries ++ stands.gate ∷ block_of entry
staged_file entry fits old mid entries at block stands at_is block_is is =
    is ∙ (λ i. written (at_is i) (block_is i) (stands.file i)) ∙ staged_is entries entry stands.gate stands.closed stands.fit fits

module _ {E : Type 0} (entry : List ℕ) (fits : length entry ≤ 65536) where
  -- while the entry is written behind the closed gate
  pub moments_behind : (result : Result (Unit {0}) E) (old mid : Told) (entries : List (List ℕ)) (at : ℕ) (block : List ℕ) {log : Option ℕ} → Stands log old entries
      → at ≡ length (front entries) + 1 → block ≡ block_of entry → IsSynced result 0 (Write at block) old mid
      → LeavesOnly old.chosen 0 old.history mid.history (OpensWithOrWithout entries entry)
  moments_behind result old mid entries at block stands at_is block_is synced =
      leaves_weaker old.chosen 0 (MayMake (Write at block) (given old 0)) (OpensWithOrWithout entries entry) old.history mid.history
      (λ image torn. inl (torn_behind entries entry stands.gate stands.closed stands.fit fits image
      (subst (λ (f : List ℕ). IsTorn (length (front entries) + 1) (block_of entry) f image) stands.file
      (subst (λ (b : List ℕ). IsTorn (length (front entries) + 1) b (given old 0) image) block_is
      (subst (λ (k : ℕ). IsTorn k block (given old 0) image) at_is torn)))))
      (synced.moments stands.settled)

  -- while the gate is opened
  pub moments_opening : (u : Unit {0}) (result : Result (Unit {0}) E) (old mid new : Told) (entries : List (List ℕ)) (at gate : ℕ) (block : List ℕ) {log : Option ℕ} → Stands log old entries
      → at ≡ length (front entries) + 1 → gate ≡ length (front entries) → block ≡ block_of entry
      → IsSynced {E = E} (Ok u) 0 (Write at block) old mid → IsSynced result 0 (Write gate (1 ∷ [])) mid new
      → LeavesOnly old.chosen 0 old.history new.history (OpensWithOrWithout entries entry)
  moments_opening u result old mid new entries at gate block stands at_is gate_is block_is first second =
      let P : List ℕ → Type 0 = OpensWithOrWithout entries entry in
      let file = staged_file entry fits old mid entries at block stands at_is block_is first.contents in
      let opening : LeavesOnly mid.chosen 0 mid.history new.history P =
      leaves_weaker mid.chosen 0 (MayMake (Write gate (1 ∷ [])) (given mid 0)) P mid.history new.history
      (λ image torn. torn_gate entries entry stands.gate stands.closed stands.fit fits image
      (subst (λ (f : List ℕ). IsTorn (length (front entries)) (1 ∷ []) f image) file
      (subst (λ (k : ℕ). IsTorn k (1 ∷ []) (given mid 0) image) gate_is torn)))
      (second.moments first.settled) in
      leaves_then old.chosen 0 P old.history mid.history new.history
      (moments_behind (Ok u) old mid entries at block stands at_is block_is first)
      (subst (λ (name : List ℕ). LeavesOnly name 0 mid.history new.history P) first.keeps.chosen opening)

  -- and then the log has the entry
  pub stands_with : (u : Unit {0}) (old mid new : Told) (entries : List (List ℕ)) (at gate next : ℕ) (block : List ℕ) {log : Option ℕ} → Stands log old entries
      → at ≡ length (front entries) + 1 → gate ≡ length (front entries) → next ≡ gate + length block → block ≡ block_of entry
      → IsSynced {E = E} (Ok u) 0 (Write at block) old mid → IsSynced {E = E} (Ok u) 0 (Write gate (1 ∷ [])) mid new
      → Stands (Some next) new (entries ++ entry ∷ [])
  stands_with u old mid new entries at gate next block stands at_is gate_is next_is block_is first second = record {
    place = ap Some (next_is ∙ (λ i. gate_is i + length (block_is i)) ∙ sym (next_place entries entry stands.gate stands.closed stands.fit fits));
    gate = 0;
    closed = λ (e : 0 ≡ 1). omega arith;
    file = second.contents
        ∙ (λ i. written (gate_is i) (1 ∷ []) (staged_file entry fits old mid entries at block stands at_is block_is first.contents i))
        ∙ gate_is_open entries entry stands.gate stands.closed stands.fit fits;
    fit = AllFit-push entries entry stands.fit fits;
    settled = second.settled;
  }
