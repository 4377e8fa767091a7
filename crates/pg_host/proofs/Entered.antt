-- The input of a packet that was taken, whole or not.
use Rattle.std.proofs.Common.{◌≡◌, ◌⊎◌, inl, inr, ℕ, Bool, true, false, ◌||◌, List, [], ◌∷◌, ◌++◌, length, take, Option, Some, None, Ok, refl, sym, ◌∙◌, ap, subst, arith}
use Rattle.std.proofs.lemmas.List.{append-nil}
use Rattle.std.proofs.Math.Bool.{or-false}
use Rattle.pg_disk.proofs.Tries.{keeps_none}
use Rattle.pg_disk.specs.Disk.{IsImage}
use Rattle.pg_disk.specs.Told.{steps, steps_of}
use Rattle.pg_disk.specs.Told.{Told as DiskTold}
use Rattle.pg_disk.specs.Moments.{LeavesSince}
use Rattle.pg_disk.specs.Synced.{KeepsOthers}
use Rattle.pg_log.specs.Bytes.{OpensTo}
use Rattle.pg_log.specs.Log.{Stands, OpensWithOrWithout}
use Rattle.pg_log.proofs.Standing.{stands_opens}
use Rattle.pg_net.specs.Net.{Datagram, Told}
use Rattle.pg_packet_write.specs.DatagramValue.{DatagramValue}
use Rattle.pg_server.specs.Local.{effect_of}
use Rattle.pg_host.specs.declared.asking.Asked.{Asked}
use Rattle.pg_host.specs.Entries.{entries_for, entry_for, input_of}
use Rattle.pg_host.specs.Inputs.{StopsAs, is_stop}
use Rattle.pg_host.specs.Sends.{SentFirst, after_all, packets, sends, with_all}
use Rattle.pg_host.specs.Host.{AreRead, IsKept, LeavesSome, Scene}
use Rattle.pg_host.specs.Turn.{Asks, Halts, Works, one_asked}
use Rattle.pg_host.proofs.Leaves.{none_leaves, some_leave}
use Rattle.pg_host.proofs.Lists.{with_all-none}

one_stops : (stop : Bool) (x : Asked) → stop ≡ is_stop x.input → StopsAs stop (x ∷ [])
one_stops true x is = record { before = []; last = x; whole = refl; none = refl; is = sym is }
one_stops false x is = or-false (is_stop x.input) ∙ sym is

one_read : (x : Asked) → input_of (entry_for x.input) ≡ Ok x.input → AreRead (x ∷ [])
one_read x is = λ i. is i ∷ []

-- ---- what is kept behind an input that was not taken whole

module _ (port : ℕ) (x : Asked) (a b : Scene) (entries : List (List ℕ)) where
  abbrev out_of : List Datagram
  out_of = packets port x.back (effect_of a.store x.input)

  abbrev Keeps : List ℕ → Type 0
  Keeps image = (k : ℕ) × OpensTo image (entries ++ entries_for (take k (x ∷ []))) × ((n : ℕ) × (b.net.sent ≡ a.net.sent ++ take n (sends port a.store (take k (x ∷ [])))))

  kept_none : (image : List ℕ) → b.net ≡ a.net → OpensWithOrWithout entries (entry_for x.input) image → Keeps image
  kept_none image same (inl without) =
      (0, subst (λ (es : List (List ℕ)). OpensTo image es) (sym (append-nil entries)) without, (0, ap (λ (t : Told). t.sent) same ∙ sym (append-nil a.net.sent)))
  kept_none image same (inr one) = (1, one, (0, ap (λ (t : Told). t.sent) same ∙ sym (append-nil a.net.sent)))

  kept_first : (image : List ℕ) → SentFirst a.net b.net out_of → (b.net ≡ a.net) ⊎ Stands b.log b.disk (entries ++ entry_for x.input ∷ [])
      → OpensWithOrWithout entries (entry_for x.input) image → IsImage (steps b.disk 0) image → Keeps image
  kept_first image first (inl same) opens is = kept_none image same opens
  kept_first image first (inr stands) opens is = (
    1,
    stands_opens b.log b.disk (entries ++ entry_for x.input ∷ []) stands image is,
    (first.0, ap (λ (t : Told). t.sent) first.1 ∙ ap (λ (ps : List Datagram). a.net.sent ++ take first.0 ps) (sym (append-nil out_of))),
  )

  -- at the exit a crash leaves the entries, with the input or without
  pub one_kept : KeepsOthers 0 a.disk b.disk → LeavesSince 0 a.disk b.disk (OpensWithOrWithout entries (entry_for x.input)) → SentFirst a.net b.net out_of
      → (b.net ≡ a.net) ⊎ Stands b.log b.disk (entries ++ entry_for x.input ∷ []) → IsKept port entries (x ∷ []) a b
  one_kept others since first before = λ image is.
      kept_first image first before
      (since.each 0 (omega (arith, since.no_fewer)) image (subst (λ (name : List ℕ). IsImage (steps_of name 0 b.disk.history) image) others.chosen is)) is

module _ (nt ct dt : Type 0) (port from : ℕ) (d : DatagramValue) (a b : Scene) where
  -- a reply, which asks nothing
  pub works_none : Asks ct from d None a.clock b.clock → b.net ≡ a.net → b.store ≡ a.store → b.disk ≡ a.disk → b.log ≡ a.log → Works nt ct dt port from d None a b
  works_none k same stays disk_stays log_stays = record {
    moments = k.moments;
    words = k.words;
    moment = k.moment;
    word = k.word;
    stops = subst (λ (l : List Asked). StopsAs false l) (sym k.is) refl;
    number = ap length k.is;
    read = subst (λ (l : List Asked). AreRead l) (sym k.is) refl;
    noted_moments = k.noted_moments;
    noted_words = k.noted_words;
    sent = λ tells. same ∙ with_all-none a.net ∙ ap (λ (l : List Asked). with_all a.net (sends port a.store l)) (sym k.is);
    store = stays ∙ ap (after_all a.store) (sym k.is);
    others = λ tells. subst (λ (t : DiskTold). KeepsOthers 0 a.disk t) (sym disk_stays) (keeps_none 0 a.disk);
    stands = λ tells entries stands. subst (λ (l : List Asked). Stands b.log b.disk (entries ++ entries_for l)) (sym k.is)
        (subst (λ (es : List (List ℕ)). Stands b.log b.disk es) (sym (append-nil entries))
        (subst (λ (o : Option ℕ). Stands o b.disk entries) (sym log_stays) (subst (λ (t : DiskTold). Stands a.log t entries) (sym disk_stays) stands)));
    leaves = λ tells entries stands. subst (λ (t : DiskTold). LeavesSome entries (one_asked from d k.moments k.words) a.disk t) (sym disk_stays) (none_leaves a.log a.disk entries (one_asked from d k.moments k.words) stands);
  }

  module _ (x : Asked) (stop : Bool) (is : stop ≡ is_stop x.input) (k : Asks ct from d (Some x) a.clock b.clock) (read : input_of (entry_for x.input) ≡ Ok x.input)
      (others : dt → KeepsOthers 0 a.disk b.disk)
      (any_moment : dt → (entries : List (List ℕ)) → Stands a.log a.disk entries → LeavesSince 0 a.disk b.disk (OpensWithOrWithout entries (entry_for x.input))) where
    abbrev out : List Datagram
    out = packets port x.back (effect_of a.store x.input)

    leaves_one : dt → (entries : List (List ℕ)) → Stands a.log a.disk entries → LeavesSome entries (x ∷ []) a.disk b.disk
    leaves_one tells entries stands = some_leave a.disk b.disk entries x (any_moment tells entries stands)

    pub works_one : (nt → b.net ≡ with_all a.net out) → b.store ≡ (effect_of a.store x.input).store
        → (dt → (entries : List (List ℕ)) → Stands a.log a.disk entries → Stands b.log b.disk (entries ++ entry_for x.input ∷ [])) → Works nt ct dt port from d (Some stop) a b
    works_one sent store kept = record {
      moments = k.moments;
      words = k.words;
      moment = k.moment;
      word = k.word;
      stops = subst (λ (l : List Asked). StopsAs stop l) (sym k.is) (one_stops stop x is);
      number = ap length k.is;
      read = subst (λ (l : List Asked). AreRead l) (sym k.is) (one_read x read);
      noted_moments = k.noted_moments;
      noted_words = k.noted_words;
      sent = λ tells. sent tells ∙ ap (with_all a.net) (sym (append-nil out)) ∙ ap (λ (l : List Asked). with_all a.net (sends port a.store l)) (sym k.is);
      store = store ∙ ap (after_all a.store) (sym k.is);
      others = others;
      stands = λ tells entries stands. subst (λ (l : List Asked). Stands b.log b.disk (entries ++ entries_for l)) (sym k.is) (kept tells entries stands);
      leaves = λ tells entries stands. subst (λ (l : List Asked). LeavesSome entries l a.disk b.disk) (sym k.is) (leaves_one tells entries stands);
    }

    pub halts_one : (nt → SentFirst a.net b.net out)
        → (dt → nt → (entries : List (List ℕ)) → Stands a.log a.disk entries → (b.net ≡ a.net) ⊎ Stands b.log b.disk (entries ++ entry_for x.input ∷ [])) → Halts nt ct dt port from d a b
    halts_one first before = record {
      moments = k.moments;
      words = k.words;
      moment = k.moment;
      word = k.word;
      stops = (stop, subst (λ (l : List Asked). StopsAs stop l) (sym k.is) (one_stops stop x is));
      read = subst (λ (l : List Asked). AreRead l) (sym k.is) (one_read x read);
      noted_moments = k.noted_moments;
      noted_words = k.noted_words;
      sent = λ tells.
          subst (λ (l : List Asked). SentFirst a.net b.net (sends port a.store l)) (sym k.is)
          (subst (λ (ps : List Datagram). SentFirst a.net b.net ps) (sym (append-nil out)) (first tells));
      others = others;
      leaves = λ tells entries stands. subst (λ (l : List Asked). LeavesSome entries l a.disk b.disk) (sym k.is) (leaves_one tells entries stands);
      kept = λ net_tells tells entries stands. subst (λ (l : List Asked). IsKept port entries l a b) (sym k.is)
          (one_kept port x a b entries (others tells) (any_moment tells entries stands) (first net_tells) (before tells net_tells entries stands));
    }
