-- One take, and what it leads to.
use Rattle.std.proofs.Common.{◌≡◌, inl, inr, ℕ, ◌+◌, Bool, false, List, [], ◌∷◌, ◌++◌, length, take, Option, Some, None, Result, Ok, Err, IfOk, IsErr, OnErr, refl, sym, ◌∙◌, ap, subst, arith, true≢false}
use Rattle.std.proofs.lemmas.List.{append-nil}
use Rattle.pg_disk.proofs.Tries.{keeps_none}
use Rattle.pg_disk.specs.Synced.{KeepsOthers}
use Rattle.pg_log.specs.Bytes.{OpensTo}
use Rattle.pg_log.specs.Log.{Stands}
use Rattle.pg_log.proofs.Standing.{stands_opens}
use Rattle.pg_net.specs.Net.{Datagram, IsTake, IsTaken, given_by}
use Rattle.pg_net.specs.Net.{Told as NetTold}
use Rattle.pg_net.specs.declared.net.Taken.{Taken}
use Rattle.pg_net.specs.declared.net.Taken.TheVariants.{Packet, Idle}
use Rattle.pg_net.specs.Clock.{AreNoted}
use Rattle.pg_net.proofs.Noted.{noted-none, taken-none}
use Rattle.pg_packet_fields.specs.declared.error.PacketError.{PacketError}
use Rattle.pg_packet_read.specs.Whole.{packet_of}
use Rattle.pg_packet_write.specs.DatagramValue.{DatagramValue}
use Rattle.pg_host.specs.declared.asking.Asked.{Asked}
use Rattle.pg_packet_write.specs.declared.datagram.Content.{Content}
use Rattle.pg_packet_write.specs.declared.datagram.Content.TheVariants as content
use Rattle.pg_packet_write.specs.declared.datagram.Request.TheVariants as request
use Rattle.pg_host.specs.Entries.{entries_for}
use Rattle.pg_host.specs.Inputs.{AreEnough, AreNearlyEnough, StopsAs, asked, asked_at, asked_by, has_stop, moments_at, words_at}
use Rattle.pg_host.specs.Sends.{SentFirst, after_all, sends, with_all}
use Rattle.pg_host.specs.Host.{AreRead, IsKept, LeavesSome, Scene, Goes, Ends, Turns, scene, stops}
use Rattle.pg_host.specs.Turn.{Halts, Works, one_asked}
use Rattle.pg_host.proofs.Files.{files_none, files_of_log}
use Rattle.pg_host.proofs.Leaves.{none_leaves}
use Rattle.pg_host.proofs.Lists.{with_all-none}

-- what a take gave
pub given_idle : (most : ℕ) (answer : Taken) (buf : List ℕ) (old new : NetTold) → answer ≡ Idle → IsTake most answer buf old new → new.given ≡ old.given ++ None ∷ []
given_idle most answer buf old new is taken = taken.given ∙ ap (λ (x : Taken). old.given ++ given_by x buf ∷ []) is

abbrev pub packet_in : ℕ → ℕ → List ℕ → Datagram
packet_in from n buf = record { port = from; bytes = take n buf }

pub given_packet : (most : ℕ) (answer : Taken) (buf : List ℕ) (old new : NetTold) (from n : ℕ) → answer ≡ Packet from n → IsTake most answer buf old new → new.given ≡ old.given ++ Some (packet_in from n buf) ∷ []
given_packet most answer buf old new from n is taken = taken.given ∙ ap (λ (x : Taken). old.given ++ given_by x buf ∷ []) is

-- bytes that are no packet ask nothing
past_asked : (port : ℕ) (r : Result DatagramValue PacketError) → IsErr r → asked_at port r (asked []) [] [] ≡ []
past_asked port (Ok d) is = absurd (true≢false (sym is))
past_asked port (Err e) is = refl

past_moments : (r : Result DatagramValue PacketError) → IsErr r → moments_at r ≡ 0
past_moments (Ok d) is = absurd (true≢false (sym is))
past_moments (Err e) is = refl

past_words : (r : Result DatagramValue PacketError) → IsErr r → words_at r ≡ 0
past_words (Ok d) is = absurd (true≢false (sym is))
past_words (Err e) is = refl

-- no moment was taken yet, so nothing is `stop`
unread_by : (port : ℕ) (d : DatagramValue) (c : Content) → has_stop (asked_by port d c (asked []) [] []) ≡ false
unread_by port d (content.Message message) = refl
unread_by port d (content.Call number (request.Call call)) = refl
unread_by port d (content.Call number request.Tick) = refl
unread_by port d (content.Reply number reply) = refl

unread_at : (port : ℕ) (r : Result DatagramValue PacketError) → has_stop (asked_at port r (asked []) [] []) ≡ false
unread_at port (Ok d) = unread_by port d d.content
unread_at port (Err e) = refl

module _ (nt ct dt : Type 0) (port : ℕ) (a : Scene) (n1 : NetTold) (t1 : ℕ) where
  -- behind the take
  abbrev pub taken : Scene
  taken = scene n1 t1 a.clock a.disk a.log a.store

  -- nothing was sent, and nothing done to the log
  kept_nothing : (entries : List (List ℕ)) (own : List Asked) → Stands a.log a.disk entries → n1.sent ≡ a.net.sent → IsKept port entries own a taken
  kept_nothing entries own stands same = λ image is.
      (0, subst (λ (es : List (List ℕ)). OpensTo image es) (sym (append-nil entries)) (stands_opens a.log a.disk entries stands image is), (0, same ∙ sym (append-nil a.net.sent)))

  -- the take failed
  pub ends_failed : (nt → n1 ≡ a.net) → t1 ≡ a.takes → Ends nt ct dt port 1 a taken
  ends_failed same takes = record {
    gave = [];
    moments = [];
    words = [];
    few = omega arith;
    enough = inl (record { each_moment = refl; each_word = refl });
    stops = (false, refl);
    read = refl;
    given = λ tells. ap (λ (t : NetTold). t.given) (same tells) ∙ sym (append-nil a.net.given);
    bound = λ tells. ap (λ (t : NetTold). t.bound) (same tells);
    noted_moments = λ tells. noted-none a.clock.moments;
    noted_words = λ tells. noted-none a.clock.words;
    sent = λ tells. (0, ap (λ (t : NetTold). t.sent) (same tells) ∙ sym (append-nil a.net.sent));
    takes = subst (λ (t : ℕ). IsTaken 0 a.takes t) (sym takes) (taken-none a.takes);
    others = λ tells. files_none a.disk;
    leaves = λ tells entries stands. none_leaves a.log a.disk entries [] stands;
    kept = λ net_tells tells entries stands. kept_nothing entries [] stands (ap (λ (t : NetTold). t.sent) (same net_tells));
  }

  module _ (g : Option Datagram) (given : nt → n1.given ≡ a.net.given ++ g ∷ []) (same : nt → n1.sent ≡ a.net.sent) (stays : nt → n1.bound ≡ a.net.bound) (one : IsTaken 1 a.takes t1) where
    -- its input was taken, from behind the take on
    abbrev goes_one : (stop : Bool) (b : Scene) (moments words : List ℕ) (own : List Asked) → asked (g ∷ []) moments words ≡ own → AreEnough (g ∷ []) moments words → StopsAs stop own → AreRead own → b.takes ≡ t1
        → (ct → AreNoted a.clock.moments b.clock.moments moments) → (ct → AreNoted a.clock.words b.clock.words words)
        → (nt → b.net ≡ with_all n1 (sends port a.store own)) → b.store ≡ after_all a.store own → (dt → KeepsOthers 0 a.disk b.disk)
        → (dt → (entries : List (List ℕ)) → Stands a.log a.disk entries → Stands b.log b.disk (entries ++ entries_for own))
        → (dt → (entries : List (List ℕ)) → Stands a.log a.disk entries → LeavesSome entries own a.disk b.disk) → Goes nt ct dt port 1 stop a b
    goes_one stop b moments words own is enough stops read takes noted_moments noted_words sent store others stands leaves = record {
      gave = g ∷ [];
      moments = moments;
      words = words;
      number = refl;
      enough = enough;
      stops = subst (λ (l : List Asked). StopsAs stop l) (sym is) stops;
      read = subst (λ (l : List Asked). AreRead l) (sym is) read;
      given = λ tells. ap (λ (t : NetTold). t.given) (sent tells) ∙ given tells;
      bound = λ tells. ap (λ (t : NetTold). t.bound) (sent tells) ∙ stays tells;
      noted_moments = noted_moments;
      noted_words = noted_words;
      sent = λ tells. ap (λ (t : NetTold). t.sent) (sent tells) ∙ ap (λ (l : List Datagram). l ++ sends port a.store own) (same tells)
          ∙ ap (λ (l : List Asked). a.net.sent ++ sends port a.store l) (sym is);
      store = store ∙ ap (after_all a.store) (sym is);
      takes = subst (λ (t : ℕ). IsTaken 1 a.takes t) (sym takes) one;
      others = λ tells. files_of_log a.disk b.disk (others tells);
      stands = λ tells entries standing. subst (λ (l : List Asked). Stands b.log b.disk (entries ++ entries_for l)) (sym is) (stands tells entries standing);
      leaves = λ tells entries standing. subst (λ (l : List Asked). LeavesSome entries l a.disk b.disk) (sym is) (leaves tells entries standing);
    }

    ends_one : (b : Scene) (moments words : List ℕ) (own : List Asked) → asked (g ∷ []) moments words ≡ own → AreNearlyEnough (g ∷ []) moments words → (stop : Bool) × StopsAs stop own → AreRead own → b.takes ≡ t1
        → (ct → AreNoted a.clock.moments b.clock.moments moments) → (ct → AreNoted a.clock.words b.clock.words words)
        → (nt → SentFirst n1 b.net (sends port a.store own)) → (dt → KeepsOthers 0 a.disk b.disk)
        → (dt → (entries : List (List ℕ)) → Stands a.log a.disk entries → LeavesSome entries own a.disk b.disk)
        → (nt → dt → (entries : List (List ℕ)) → Stands a.log a.disk entries → IsKept port entries own taken b) → Ends nt ct dt port 1 a b
    ends_one b moments words own is enough stops read takes noted_moments noted_words sent others leaves kept = record {
      gave = g ∷ [];
      moments = moments;
      words = words;
      few = omega arith;
      enough = enough;
      stops = (stops.0, subst (λ (l : List Asked). StopsAs stops.0 l) (sym is) stops.1);
      read = subst (λ (l : List Asked). AreRead l) (sym is) read;
      given = λ tells. ap (λ (t : NetTold). t.given) (sent tells).1 ∙ given tells;
      bound = λ tells. ap (λ (t : NetTold). t.bound) (sent tells).1 ∙ stays tells;
      noted_moments = noted_moments;
      noted_words = noted_words;
      sent = λ tells. (
        (sent tells).0,
        ap (λ (t : NetTold). t.sent) (sent tells).1 ∙ ap (λ (l : List Datagram). l ++ take (sent tells).0 (sends port a.store own)) (same tells)
            ∙ ap (λ (l : List Asked). a.net.sent ++ take (sent tells).0 (sends port a.store l)) (sym is),
      );
      takes = subst (λ (t : ℕ). IsTaken 1 a.takes t) (sym takes) one;
      others = λ tells. files_of_log a.disk b.disk (others tells);
      leaves = λ tells entries standing. subst (λ (l : List Asked). LeavesSome entries l a.disk b.disk) (sym is) (leaves tells entries standing);
      kept = λ net_tells tells entries standing. subst (λ (l : List Asked). IsKept port entries l a b) (sym is) (λ image image_is.
          let there = kept net_tells tells entries standing image image_is in
          (there.0, there.1, (there.2.0, there.2.1 ∙ ap (λ (l : List Datagram). l ++ take there.2.0 (sends port a.store (take there.0 own))) (same net_tells))));
    }

    -- it asked nothing
    abbrev goes_nothing : asked (g ∷ []) [] [] ≡ [] → AreEnough (g ∷ []) [] [] → Goes nt ct dt port 1 false a taken
    goes_nothing is enough =
        goes_one false taken [] [] [] is enough refl refl refl
        (λ tells. noted-none a.clock.moments) (λ tells. noted-none a.clock.words) (λ tells. with_all-none n1) refl
        (λ tells. keeps_none 0 a.disk)
        (λ tells entries standing. subst (λ (es : List (List ℕ)). Stands a.log a.disk es) (sym (append-nil entries)) standing)
        (λ tells entries standing. none_leaves a.log a.disk entries [] standing)

    turns_nothing : asked (g ∷ []) [] [] ≡ [] → AreEnough (g ∷ []) [] [] → Turns nt ct dt port None a taken
    turns_nothing is enough = (goes_nothing is enough, ap length is)

  pub goes_idle : (nt → n1.given ≡ a.net.given ++ None ∷ []) → (nt → n1.sent ≡ a.net.sent) → (nt → n1.bound ≡ a.net.bound) → IsTaken 1 a.takes t1 → Turns nt ct dt port None a taken
  goes_idle given same stays one = turns_nothing None given same stays one refl (record { each_moment = refl; each_word = refl })

  module _ (p : Datagram) (given : nt → n1.given ≡ a.net.given ++ Some p ∷ []) (same : nt → n1.sent ≡ a.net.sent) (stays : nt → n1.bound ≡ a.net.bound) (one : IsTaken 1 a.takes t1) where
    -- a packet that is passed over
    pub goes_past : IsErr (packet_of p.bytes) → Turns nt ct dt port None a taken
    goes_past is =
        let no_moments : moments_at (packet_of p.bytes) ≡ 0 = past_moments (packet_of p.bytes) is in
        let no_words : words_at (packet_of p.bytes) ≡ 0 = past_words (packet_of p.bytes) is in
        turns_nothing (Some p) given same stays one (past_asked p.port (packet_of p.bytes) is)
        (record { each_moment = omega (arith, no_moments); each_word = omega (arith, no_words) })

    -- a packet that memory did not suffice for
    pub ends_unread : AreRead (asked (Some p ∷ []) [] []) → Ends nt ct dt port 1 a taken
    ends_unread read =
        let own : List Asked = asked (Some p ∷ []) [] [] in
        ends_one (Some p) given same stays one taken [] [] own refl
        (inr (record { before = []; last = p; whole = refl; enough = record { each_moment = refl; each_word = refl } })) (false, unread_at p.port (packet_of p.bytes)) read refl
        (λ tells. noted-none a.clock.moments) (λ tells. noted-none a.clock.words) (λ tells. (0, with_all-none n1))
        (λ tells. keeps_none 0 a.disk) (λ tells entries standing. none_leaves a.log a.disk entries own standing)
        (λ net_tells tells entries standing image is.
        (0, subst (λ (es : List (List ℕ)). OpensTo image es) (sym (append-nil entries)) (stands_opens a.log a.disk entries standing image is), (0, sym (append-nil n1.sent))))

    module _ (d : DatagramValue) (is : packet_of p.bytes ≡ Ok d) (b : Scene) (takes : b.takes ≡ t1) where
      own_is : (moments words : List ℕ) → asked (Some p ∷ []) moments words ≡ one_asked p.port d moments words
      own_is moments words = ap (λ (r : Result DatagramValue PacketError). asked_at p.port r (asked []) moments words) is

      enough_is : (moments words : List ℕ) → length moments ≡ moments_at (Ok d) → length words ≡ words_at (Ok d) → AreEnough (Some p ∷ []) moments words
      enough_is moments words moment word =
          let moments_are : moments_at (packet_of p.bytes) ≡ moments_at (Ok d) = ap moments_at is in
          let words_are : words_at (packet_of p.bytes) ≡ words_at (Ok d) = ap words_at is in
          record { each_moment = omega (arith, moments_are, moment); each_word = omega (arith, words_are, word) }

      pub goes_packet : (came : Option Bool) → Works nt ct dt port p.port d came taken b → Turns nt ct dt port came a b
      goes_packet came w = (
        goes_one (Some p) given same stays one (stops came) b w.moments w.words (one_asked p.port d w.moments w.words) (own_is w.moments w.words) (enough_is w.moments w.words w.moment w.word) w.stops w.read takes
            w.noted_moments w.noted_words w.sent w.store w.others w.stands w.leaves,
        ap length (own_is w.moments w.words) ∙ w.number,
      )

      pub ends_packet : Halts nt ct dt port p.port d taken b → Ends nt ct dt port 1 a b
      ends_packet h =
          ends_one (Some p) given same stays one b h.moments h.words (one_asked p.port d h.moments h.words) (own_is h.moments h.words) (inl (enough_is h.moments h.words h.moment h.word)) h.stops h.read takes
          h.noted_moments h.noted_words h.sent h.others h.leaves h.kept

      pub ok_goes : {E : Type 0} → (result : Result (Option Bool) E) → IfOk result (λ came. Works nt ct dt port p.port d came taken b) → IfOk result (λ came. Turns nt ct dt port came a b)
      ok_goes (Ok came) w = goes_packet came w
      ok_goes (Err e) w = tt

      pub err_ends : {E : Type 0} → (result : Result (Option Bool) E) → OnErr result (Halts nt ct dt port p.port d taken b) → OnErr result (Ends nt ct dt port 1 a b)
      err_ends (Ok stop) h = tt
      err_ends (Err e) h = ends_packet h
