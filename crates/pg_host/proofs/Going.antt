-- How runs of turns go on, one behind another.
use Rattle.std.proofs.Common.{◌≡◌, inl, ℕ, ◌+◌, ◌≤◌, Bool, false, List, [], ◌++◌, length, take, Option, refl, sym, ◌∙◌, ap, subst, append_assoc, length-append, arith}
use Rattle.std.proofs.lemmas.List.{append-nil, take_all}
use Rattle.std.proofs.Math.Seq.{take-append-add}
use Rattle.pg_checkpoint.specs.Saves.{KeepsRest}
use Rattle.pg_disk.specs.Moments.{LeavesSince}
use Rattle.pg_disk.specs.Told.{Told as DiskTold}
use Rattle.pg_log.specs.Bytes.{OpensTo}
use Rattle.pg_log.specs.Log.{Stands}
use Rattle.pg_log.proofs.Standing.{stands_opens}
use Rattle.pg_net.specs.Net.{Datagram, IsTaken}
use Rattle.pg_net.proofs.Noted.{noted-none, noted-append, taken-none, taken-add}
use Rattle.pg_store.specs.declared.store.Store.{Store}
use Rattle.pg_host.specs.declared.asking.Asked.{Asked}
use Rattle.pg_host.specs.Entries.{entries_for}
use Rattle.pg_host.specs.Inputs.{StopsAs, asked}
use Rattle.pg_host.specs.Logs.{OpensToSome}
use Rattle.pg_host.specs.Sends.{after_all, sends}
use Rattle.pg_host.specs.Host.{AreRead, IsKept, LeavesSome, Scene, scene, Goes, Ends}
use Rattle.pg_host.specs.Slots.{KeepsFiles}
use Rattle.pg_host.proofs.Asked.{asked-append, after_all-append, enough-append, nearly-append, sends-append, sent_on, stops-append}
use Rattle.pg_host.proofs.Files.{files_none, files_of_slots, files_then, log_leaves, log_stands}
use Rattle.pg_host.proofs.Leaves.{entries-append, leaves_on, none_leaves, read-append, regroup}

-- what is kept behind other inputs
kept_on : (port : ℕ) (entries : List (List ℕ)) (own more : List Asked) (a b d : Scene) → b.net.sent ≡ a.net.sent ++ sends port a.store own → b.store ≡ after_all a.store own
    → IsKept port (entries ++ entries_for own) more b d → IsKept port entries (own ++ more) a d
kept_on port entries own more a b d sent store kept = λ image is.
    let there = kept image is in
    let k : ℕ = there.0 in
    let n : ℕ = there.2.0 in
    let front : take (length own + k) (own ++ more) ≡ own ++ take k more = take-append-add own more k in (
      length own + k,
      subst (λ (l : List Asked). OpensTo image (entries ++ entries_for l)) (sym front) (subst (λ (es : List (List ℕ)). OpensTo image es) (regroup entries own (take k more)) there.1),
      (
        length (sends port a.store own) + n,
        sent_on port a.store own (take k more) a.net.sent b.net.sent d.net.sent n sent (there.2.1 ∙ ap (λ (s : Store). b.net.sent ++ take n (sends port s (take k more))) store)
            ∙ ap (λ (l : List Asked). a.net.sent ++ take (length (sends port a.store own) + n) (sends port a.store l)) (sym front),
      ),
    )

module _ (nt ct dt : Type 0) (port : ℕ) where
  abbrev pub goes_none : (a : Scene) → Goes nt ct dt port 0 false a a
  goes_none a = record {
    gave = [];
    moments = [];
    words = [];
    number = refl;
    enough = record { each_moment = refl; each_word = refl };
    stops = refl;
    read = refl;
    given = λ tells. sym (append-nil a.net.given);
    bound = λ tells. refl;
    noted_moments = λ tells. noted-none a.clock.moments;
    noted_words = λ tells. noted-none a.clock.words;
    sent = λ tells. sym (append-nil a.net.sent);
    store = refl;
    takes = taken-none a.takes;
    others = λ tells. files_none a.disk;
    stands = λ tells entries stands. subst (λ (es : List (List ℕ)). Stands a.log a.disk es) (sym (append-nil entries)) stands;
    leaves = λ tells entries stands. none_leaves a.log a.disk entries [] stands;
  }

  abbrev pub goes_then : (m n : ℕ) (stop : Bool) (a b d : Scene) → Goes nt ct dt port m false a b → Goes nt ct dt port n stop b d → Goes nt ct dt port (m + n) stop a d
  goes_then m n stop a b d g h =
      let own : List Asked = asked g.gave g.moments g.words in
      let more : List Asked = asked h.gave h.moments h.words in
      let all : asked (g.gave ++ h.gave) (g.moments ++ h.moments) (g.words ++ h.words) ≡ own ++ more = asked-append g.gave h.gave g.moments g.words h.moments h.words g.enough in
      record {
        gave = g.gave ++ h.gave;
        moments = g.moments ++ h.moments;
        words = g.words ++ h.words;
        number = omega (arith, length-append g.gave h.gave, g.number, h.number);
        enough = enough-append g.gave h.gave g.moments g.words h.moments h.words g.enough h.enough;
        stops = subst (λ (l : List Asked). StopsAs stop l) (sym all) (stops-append stop own more g.stops h.stops);
        read = subst (λ (l : List Asked). AreRead l) (sym all) (read-append own more g.read h.read);
        given = λ tells. h.given tells ∙ ap (λ (l : List (Option Datagram)). l ++ h.gave) (g.given tells) ∙ append_assoc a.net.given g.gave h.gave;
        bound = λ tells. h.bound tells ∙ g.bound tells;
        noted_moments = λ tells. noted-append a.clock.moments b.clock.moments d.clock.moments g.moments h.moments (g.noted_moments tells) (h.noted_moments tells);
        noted_words = λ tells. noted-append a.clock.words b.clock.words d.clock.words g.words h.words (g.noted_words tells) (h.noted_words tells);
        sent = λ tells. h.sent tells ∙ ap (λ (l : List Datagram). l ++ sends port b.store more) (g.sent tells)
            ∙ append_assoc a.net.sent (sends port a.store own) (sends port b.store more)
            ∙ ap (λ (s : Store). a.net.sent ++ (sends port a.store own ++ sends port s more)) g.store
            ∙ ap (λ (l : List Datagram). a.net.sent ++ l) (sym (sends-append port a.store own more))
            ∙ ap (λ (l : List Asked). a.net.sent ++ sends port a.store l) (sym all);
        store = h.store ∙ ap (λ (s : Store). after_all s more) g.store ∙ sym (after_all-append a.store own more) ∙ ap (after_all a.store) (sym all);
        takes = taken-add m n a.takes b.takes d.takes g.takes h.takes;
        others = λ tells. files_then a.disk b.disk d.disk (g.others tells) (h.others tells);
        stands = λ tells entries stands. subst (λ (l : List Asked). Stands d.log d.disk (entries ++ entries_for l)) (sym all)
            (subst (λ (es : List (List ℕ)). Stands d.log d.disk es) (regroup entries own more) (h.stands tells (entries ++ entries_for own) (g.stands tells entries stands)));
        leaves = λ tells entries stands. subst (λ (l : List (List ℕ)). LeavesSince 0 a.disk d.disk (OpensToSome entries l)) (sym (entries-append own more) ∙ ap entries_for (sym all))
            (leaves_on a.disk b.disk d.disk entries (entries_for own) (entries_for more) (g.others tells).chosen (g.leaves tells entries stands)
            (h.leaves tells (entries ++ entries_for own) (g.stands tells entries stands)));
      }

  pub goes_ends : (m n : ℕ) (a b d : Scene) → Goes nt ct dt port m false a b → Ends nt ct dt port n b d → Ends nt ct dt port (m + n) a d
  goes_ends m n a b d g h =
      let own : List Asked = asked g.gave g.moments g.words in
      let more : List Asked = asked h.gave h.moments h.words in
      let all : asked (g.gave ++ h.gave) (g.moments ++ h.moments) (g.words ++ h.words) ≡ own ++ more = asked-append g.gave h.gave g.moments g.words h.moments h.words g.enough in
      record {
        gave = g.gave ++ h.gave;
        moments = g.moments ++ h.moments;
        words = g.words ++ h.words;
        few = omega (arith, length-append g.gave h.gave, g.number, h.few);
        enough = nearly-append g.gave h.gave g.moments g.words h.moments h.words g.enough h.enough;
        stops = (h.stops.0, subst (λ (l : List Asked). StopsAs h.stops.0 l) (sym all) (stops-append h.stops.0 own more g.stops h.stops.1));
        read = subst (λ (l : List Asked). AreRead l) (sym all) (read-append own more g.read h.read);
        given = λ tells. h.given tells ∙ ap (λ (l : List (Option Datagram)). l ++ h.gave) (g.given tells) ∙ append_assoc a.net.given g.gave h.gave;
        bound = λ tells. h.bound tells ∙ g.bound tells;
        noted_moments = λ tells. noted-append a.clock.moments b.clock.moments d.clock.moments g.moments h.moments (g.noted_moments tells) (h.noted_moments tells);
        noted_words = λ tells. noted-append a.clock.words b.clock.words d.clock.words g.words h.words (g.noted_words tells) (h.noted_words tells);
        sent = λ tells.
            let k : ℕ = (h.sent tells).0 in (
              length (sends port a.store own) + k,
              sent_on port a.store own more a.net.sent b.net.sent d.net.sent k (g.sent tells) ((h.sent tells).1 ∙ ap (λ (s : Store). b.net.sent ++ take k (sends port s more)) g.store)
                  ∙ ap (λ (l : List Asked). a.net.sent ++ take (length (sends port a.store own) + k) (sends port a.store l)) (sym all),
            );
        takes = subst (λ (k : ℕ). IsTaken k a.takes d.takes) (omega (arith, length-append g.gave h.gave, g.number)) (taken-add m (length h.gave) a.takes b.takes d.takes g.takes h.takes);
        others = λ tells. files_then a.disk b.disk d.disk (g.others tells) (h.others tells);
        leaves = λ tells entries stands. subst (λ (l : List (List ℕ)). LeavesSince 0 a.disk d.disk (OpensToSome entries l)) (sym (entries-append own more) ∙ ap entries_for (sym all))
            (leaves_on a.disk b.disk d.disk entries (entries_for own) (entries_for more) (g.others tells).chosen (g.leaves tells entries stands)
            (h.leaves tells (entries ++ entries_for own) (g.stands tells entries stands)));
        kept = λ net_tells tells entries stands. subst (λ (l : List Asked). IsKept port entries l a d) (sym all)
            (kept_on port entries own more a b d (g.sent net_tells) g.store (h.kept net_tells tells (entries ++ entries_for own) (g.stands tells entries stands)));
      }

  -- what was saved behind it
  module _ (count : ℕ) (a b : Scene) (disk : DiskTold) (rest : dt → KeepsRest b.disk disk) where
    abbrev pub with_disk : Scene
    with_disk = scene b.net b.takes b.clock disk b.log b.store

    still : dt → (entries : List (List ℕ)) → Stands b.log b.disk entries → LeavesSince 0 b.disk disk (OpensToSome entries [])
    still tells entries stands =
        log_leaves b.disk disk (rest tells) (OpensToSome entries [])
        (λ image is. (0, omega arith, subst (λ (es : List (List ℕ)). OpensTo image es) (sym (append-nil entries)) (stands_opens b.log b.disk entries stands image is)))

    pub leaves_still : dt → (entries : List (List ℕ)) (own : List Asked) → KeepsFiles a.disk b.disk → LeavesSome entries own a.disk b.disk → Stands b.log b.disk (entries ++ entries_for own) → LeavesSome entries own a.disk disk
    leaves_still tells entries own keeps leaves stands =
        subst (λ (l : List (List ℕ)). LeavesSince 0 a.disk disk (OpensToSome entries l)) (append-nil (entries_for own))
        (leaves_on a.disk b.disk disk entries (entries_for own) [] keeps.chosen leaves (still tells (entries ++ entries_for own) stands))

    abbrev pub goes_saved : (stop : Bool) → Goes nt ct dt port count stop a b → Goes nt ct dt port count stop a with_disk
    goes_saved stop g = record {
      gave = g.gave;
      moments = g.moments;
      words = g.words;
      number = g.number;
      enough = g.enough;
      stops = g.stops;
      read = g.read;
      given = g.given;
      bound = g.bound;
      noted_moments = g.noted_moments;
      noted_words = g.noted_words;
      sent = g.sent;
      store = g.store;
      takes = g.takes;
      others = λ tells. files_then a.disk b.disk disk (g.others tells) (files_of_slots b.disk disk (rest tells));
      stands = λ tells entries stands. log_stands b.disk disk (rest tells) b.log (entries ++ entries_for (asked g.gave g.moments g.words)) (g.stands tells entries stands);
      leaves = λ tells entries stands. leaves_still tells entries (asked g.gave g.moments g.words) (g.others tells) (g.leaves tells entries stands) (g.stands tells entries stands);
    }

  abbrev pub ends_of : (m n : ℕ) (stop : Bool) (a b : Scene) → m ≤ n → Goes nt ct dt port m stop a b → Ends nt ct dt port n a b
  ends_of m n stop a b within g =
      let own : List Asked = asked g.gave g.moments g.words in
      let all : List Datagram = sends port a.store own in
      let all_sent : nt → b.net.sent ≡ a.net.sent ++ take (length all) all = λ tells. g.sent tells ∙ ap (λ (l : List Datagram). a.net.sent ++ l) (sym (take_all (length all) all (omega arith))) in
      record {
        gave = g.gave;
        moments = g.moments;
        words = g.words;
        few = omega (arith, within, g.number);
        enough = inl g.enough;
        stops = (stop, g.stops);
        read = g.read;
        given = g.given;
        bound = g.bound;
        noted_moments = g.noted_moments;
        noted_words = g.noted_words;
        sent = λ tells. (length all, all_sent tells);
        takes = subst (λ (k : ℕ). IsTaken k a.takes b.takes) (sym g.number) g.takes;
        others = g.others;
        leaves = g.leaves;
        kept = λ net_tells tells entries stands image is.
            let whole : take (length own) own ≡ own = take_all (length own) own (omega arith) in (
              length own,
              subst (λ (l : List Asked). OpensTo image (entries ++ entries_for l)) (sym whole) (stands_opens b.log b.disk (entries ++ entries_for own) (g.stands tells entries stands) image is),
              (length all, all_sent net_tells ∙ ap (λ (l : List Asked). a.net.sent ++ take (length all) (sends port a.store l)) (sym whole)),
            );
      }

  pub ends_within : (m n : ℕ) (a b : Scene) → m ≤ n → Ends nt ct dt port m a b → Ends nt ct dt port n a b
  ends_within m n a b within e = record {
    gave = e.gave;
    moments = e.moments;
    words = e.words;
    few = omega (arith, within, e.few);
    enough = e.enough;
    stops = e.stops;
    read = e.read;
    given = e.given;
    bound = e.bound;
    noted_moments = e.noted_moments;
    noted_words = e.noted_words;
    sent = e.sent;
    takes = e.takes;
    others = e.others;
    leaves = e.leaves;
    kept = e.kept;
  }
