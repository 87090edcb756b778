-- What the promise shuts out.
use Rattle.std.proofs.Common.{◌≡◌, ℕ, true, false, List, [], ◌∷◌, ◌++◌, length, sym, refl, ap, ◌∙◌, subst, inl, inr, append-nil, arith}
use Rattle.std.proofs.lemmas.Bool.{false≢true, true≢false, both_ways}
use Rattle.calls.specs.declared.answer.Answer.{Answer}
use Rattle.calls.specs.declared.answer.Answer.TheVariants.{Done, Made, Landed, Stopped, Begun, Ended, Collected, Refused}
use Rattle.calls.specs.declared.answer.Kind.{Kind}
use Rattle.calls.specs.declared.answer.Kind.TheVariants as kind
use Rattle.calls.specs.declared.answer.Landing.{Landing}
use Rattle.calls.specs.declared.call.Call.{Call}
use Rattle.calls.specs.declared.call.Call.TheVariants.{Raise, Resume, Rethrow, Force}
use Rattle.rules.specs.Book.{Book, Account, blank, set_running, lost, drop_all, lowest, below, above, known, add_answer, account_of, other_accounts, keep_of, at_landing, answered, opened, entry, note, written, refused}
use Rattle.rules.specs.Excluded.{OneMore, AnswersInTurn, ShutOut}
use Rattle.rules.specs.Landings.{asked, cleanups, handlers, above_handler, above_kept, raise_list, force_list}
use Rattle.rules.specs.Lists.{has, All, Begins}
use Rattle.rules.specs.Promise.{Whole, Part, book}
use Rattle.rules.specs.Search.{Verdicts, asks}
use Rattle.rules.specs.State.{State, raisers}
use Rattle.rules.proofs.Walk.{account, tell_head, that_head}

-- in every run

-- the book of one call more
written_more : (v : Verdicts) (calls : List Call) (as' : List Answer) (c : Call) (a : Answer) (b : Book) → length calls ≡ length as'
    → written v (calls ++ (c ∷ [])) (as' ++ (a ∷ [])) b ≡ note v c a (written v calls as' b)
unfolding written
written_more v [] [] c a b e = refl
written_more v [] (d ∷ as') c a b e = absurd (omega arith)
written_more v (d ∷ calls) [] c a b e = absurd (omega arith)
written_more v (d ∷ calls) (f ∷ as') c a b e = written_more v calls as' c a (note v d f b) (omega arith)

-- an account that has just been told a, whether it goes on or has ended
told : (x keep : ℕ) (list said : List Answer) (us : List Account) (b : Book) (a : Answer) → b.running ≡ account x keep list said ∷ us
    → All Whole (answered x a b).ended → All Part (answered x a b).running → Begins (said ++ (a ∷ [])) list
told x keep list said us b a er w p = go a w p
  where
    now : (a : Answer) → add_answer x a b.running ≡ account x keep list (said ++ (a ∷ [])) ∷ us
    now a = rw er (tell_head x keep list said us a)

    goes_on : (a : Answer) → All Part (add_answer x a b.running) → Begins (said ++ (a ∷ [])) list
    goes_on a p = (subst (All Part) (now a) p).0.firsts

    ends_here : (a : Answer) → All Whole (account_of x (add_answer x a b.running) ++ b.ended) → Begins (said ++ (a ∷ [])) list
    ends_here a w =
        let h = (subst (λ us. All Whole (us ++ b.ended)) (ap (account_of x) (now a) ∙ that_head x keep list (said ++ (a ∷ [])) us) w).0 in
        ([], sym h.all ∙ sym (append-nil (said ++ (a ∷ []))))

    lands : (l : Landing) (k : Kind) → l.kind ≡ k
        → All Whole (at_landing x l k (set_running (add_answer x (Landed l) b.running) b)).ended → All Part (at_landing x l k (set_running (add_answer x (Landed l) b.running) b)).running
        → Begins (said ++ (Landed l ∷ [])) list
    lands l kind.Cleanup ek w p = goes_on (Landed l) p
    lands l (kind.Handler selector) ek w p = ends_here (Landed l) w

    go : (a : Answer) → All Whole (answered x a b).ended → All Part (answered x a b).running → Begins (said ++ (a ∷ [])) list
    go Done w p = goes_on Done p
    go (Made y) w p = goes_on (Made y) p
    go (Landed l) w p = lands l l.kind refl w p
    go (Stopped y) w p = ends_here (Stopped y) w
    go (Begun n) w p = goes_on (Begun n) p
    go (Ended y n z) w p = goes_on (Ended y n z) p
    go (Collected y) w p = goes_on (Collected y) p
    go (Refused r) w p = goes_on (Refused r) p

-- the call c was answered a, which adds to the account of x
in_turn : (v : Verdicts) (calls : List Call) (as' : List Answer) (c : Call) (a : Answer) (s : State) (x keep : ℕ) (list said : List Answer) (us : List Account) (b : Book)
    → entry v c a (book v calls as') ≡ answered x a b → b.running ≡ account x keep list said ∷ us → OneMore v calls as' c a s → Begins (said ++ (a ∷ [])) list
in_turn v calls as' c a s x keep list said us b en er m =
    told x keep list said us b a er
    (subst (λ b. All Whole b.ended) is m.2.ended) (subst (λ b. All Part b.running) is m.2.running)
  where
    is : written v (calls ++ (c ∷ [])) (as' ++ (a ∷ [])) blank ≡ answered x a b
    is = written_more v calls as' c a blank m.0 ∙ (unfold note in rw m.1 en)

pub answers_in_turn : AnswersInTurn
answers_in_turn v calls as' a s =
    let b = book v calls as' in
    record {
      raise = λ e k m. in_turn v calls as' (Raise e.serial) a s e.serial 0 _ [] b.running (opened e.serial 0 (raise_list (asks v e false) e.serial b.frames) b) (rw k) refl m;
      rethrow = λ e k n cs ec m. in_turn v calls as' Rethrow a s e.serial 0 _ [] b.running (opened e.serial 0 (raise_list (asks v e false) e.serial b.frames) b) (rw (ec, k)) refl m;
      force = λ e k keep m. in_turn v calls as' (Force e.serial keep) a s e.serial keep _ [] b.running (opened e.serial keep (force_list (asks v e true) e.serial keep b.frames) b) (rw k) refl m;
      resume = λ u us er m. in_turn v calls as' (Resume u.serial) a s u.serial u.keep u.list u.answers us b refl er m;
    }

-- in sample runs: the book of the run is computed, and a sentence of the promise is false of it

pub shut_out : ShutOut
unfolding lost drop_all lowest below above known add_answer account_of other_accounts keep_of note written asked cleanups handlers above_handler above_kept has
shut_out =
    record {
      straight = λ s p. cc p.ended.0.all;
      from_the_first = λ s p. cc p.ended.0.all;
      at_nothing = λ s p. let e : 1 ≡ 2 = second _ _ _ _ _ _ p.running.0.firsts.1 in omega arith;
      no_landing = λ s p. cc p.running.0.firsts.1;
      no_handler = λ s p. false≢true p.running.0.to_come;
      stops_first = λ s p. cc p.ended.0.all;
      refuses = λ s p. true≢false (ap refused p.collects.1.1.0);
      out_of_turn = λ s p. cc p.collects.1.1.1.1.0;
      forgotten = λ s p. true≢false (ap refused p.collects.1.1.1.1.1.1.1.0);
      not_waiting = λ s n p. both_ways (has 1 s.waiting) n ((p.waits 1 (refl, refl)).1 refl);
      raiser_forgotten = λ s n p. both_ways (has 1 (raisers s.held)) n (p.same.raisers 1);
      another_begins = λ s p. elim p.apt.1.1.1.0 [ inl e ↦ false≢true e | inr e ↦ cc e.0 ];
      collected_unwinding = λ s p. false≢true (ap refused p.collects.1.1.1.1.1.1.1.1.0);
      waiting_unwinding = λ s n p. true≢false ((p.waits 1 (refl, refl)).0 n);
    }
  where
    -- equal lists with a landing second have it in one frame
    second : (a b : Answer) (l m : Landing) (as' bs : List Answer) → a ∷ Landed l ∷ as' ≡ b ∷ Landed m ∷ bs → l.frame ≡ m.frame
    second a b l m as' bs e = let f : l ≡ m = cc in ap (λ (l : Landing). l.frame) f
