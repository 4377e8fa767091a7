-- What takes gave until a reply came.
use Rattle.std.proofs.Common.{◌≡◌, inl, inr, ℕ, ◌+◌, ◌≤◌, List, [], ◌∷◌, ◌++◌, length, Option, Some, None, Ok, Err, refl, sym, ◌∙◌, ap, subst, arith, append_assoc, length-append}
use Rattle.pg_net.specs.Net.{Datagram, Told, IsTaken}
use Rattle.pg_net.proofs.Noted.{taken-add}
use Rattle.pg_call.specs.declared.reply.Reply.{Reply}
use Rattle.pg_event.specs.declared.status.Status.TheVariants as status
use Rattle.pg_client.specs.Replies.{first_reply, or_later, reply_in}
use Rattle.pg_client.specs.Asks.{Heard, Listens}

or_more : (x y z : Option Reply) → or_later (or_later x y) z ≡ or_later x (or_later y z)
or_more None y z = refl
or_more (Some r) y z = refl

first-append : (g h : List (Option Datagram)) → first_reply (g ++ h) ≡ or_later (first_reply g) (first_reply h)
first-append [] h = refl
first-append (x ∷ g) h = ap (or_later (reply_in x)) (first-append g h) ∙ sym (or_more (reply_in x) (first_reply g) (first_reply h))

or_none : (x : Option Reply) → or_later x None ≡ x
or_none None = refl
or_none (Some r) = refl

-- behind takes that gave none
one_more : (gave : List (Option Datagram)) (g : Option Datagram) → first_reply gave ≡ None → first_reply (gave ++ g ∷ []) ≡ reply_in g
one_more gave g none = first-append gave (g ∷ []) ∙ ap (λ (r : Option Reply). or_later r (or_later (reply_in g) None)) none ∙ or_none (reply_in g)

module _ (nt : Type 0) (k : ℕ) (n0 n1 : Told) (t0 t1 : ℕ) (h : Heard nt k n0 n1 t0 t1) where
  -- ten takes gave none
  pub heard_none : k ≡ 10 → Listens nt (Ok None) n0 n1 t0 t1
  heard_none all = record {
    gave = h.gave;
    few = omega (arith, h.number, all);
    given = h.given;
    sent = h.sent;
    bound = h.bound;
    taken = subst (λ (n : ℕ). IsTaken n t0 t1) (sym h.number) h.taken;
    found = sym h.none;
    spent = λ none. h.number ∙ all;
    failed = tt;
  }

  -- the next take failed
  pub heard_failed : (n2 : Told) (t2 : ℕ) → k ≤ 10 → (nt → n2 ≡ n1) → t2 ≡ t1 → Listens nt (Err status.NetFault) n0 n2 t0 t2
  heard_failed n2 t2 few same same_takes = record {
    gave = h.gave;
    few = omega (arith, h.number, few);
    given = λ tells. ap (λ (t : Told). t.given) (same tells) ∙ h.given tells;
    sent = λ tells. ap (λ (t : Told). t.sent) (same tells) ∙ h.sent tells;
    bound = λ tells. ap (λ (t : Told). t.bound) (same tells) ∙ h.bound tells;
    taken = subst (λ (n : ℕ). IsTaken n t0 t2) (sym h.number) (subst (λ (t : ℕ). IsTaken k t0 t) (sym same_takes) h.taken);
    found = tt;
    spent = tt;
    failed = inl (refl, h.none);
  }

  -- the next take gave this
  module _ (n2 : Told) (t2 : ℕ) (g : Option Datagram) (given : nt → n2.given ≡ n1.given ++ g ∷ []) (sent : nt → n2.sent ≡ n1.sent) (bound : nt → n2.bound ≡ n1.bound) (taken : IsTaken 1 t1 t2) where
    all_given : nt → n2.given ≡ n0.given ++ (h.gave ++ g ∷ [])
    all_given tells = given tells ∙ ap (λ (l : List (Option Datagram)). l ++ g ∷ []) (h.given tells) ∙ append_assoc n0.given h.gave (g ∷ [])

    size : length (h.gave ++ g ∷ []) ≡ k + 1
    size = omega (arith, length-append h.gave (g ∷ []), h.number)

    all_taken : IsTaken (k + 1) t0 t2
    all_taken = taken-add k 1 t0 t1 t2 h.taken taken

    pub heard_more : reply_in g ≡ None → Heard nt (k + 1) n0 n2 t0 t2
    heard_more none = record {
      gave = h.gave ++ g ∷ [];
      number = size;
      given = all_given;
      sent = λ tells. sent tells ∙ h.sent tells;
      bound = λ tells. bound tells ∙ h.bound tells;
      taken = all_taken;
      none = one_more h.gave g h.none ∙ none;
    }

    pub heard_reply : (r : Reply) → reply_in g ≡ Some r → k + 1 ≤ 10 → Listens nt (Ok (Some r)) n0 n2 t0 t2
    heard_reply r is few = record {
      gave = h.gave ++ g ∷ [];
      few = omega (arith, size, few);
      given = all_given;
      sent = λ tells. sent tells ∙ h.sent tells;
      bound = λ tells. bound tells ∙ h.bound tells;
      taken = subst (λ (n : ℕ). IsTaken n t0 t2) (sym size) all_taken;
      found = sym (one_more h.gave g h.none ∙ is);
      spent = λ none. absurd (let e : Some r ≡ None = none in cc);
      failed = tt;
    }

    -- there was no memory to read it
    pub heard_unread : k + 1 ≤ 10 → Listens nt (Err status.OutOfMemory) n0 n2 t0 t2
    heard_unread few = record {
      gave = h.gave ++ g ∷ [];
      few = omega (arith, size, few);
      given = all_given;
      sent = λ tells. sent tells ∙ h.sent tells;
      bound = λ tells. bound tells ∙ h.bound tells;
      taken = subst (λ (n : ℕ). IsTaken n t0 t2) (sym size) all_taken;
      found = tt;
      spent = tt;
      failed = inr refl;
    }
