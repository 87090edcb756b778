-- The laws of a leaf's verdict from those of its call site's.
use Rattle.std.proofs.Common.{◌≡◌, ℕ, Bool, true, false, eqb, List, take, Some, None, Ok, Err, Option, Result, sym, refl, ap, ◌∙◌}
use Rattle.personality.specs.Layers.{in_unit_0}
use Rattle.personality.specs.declared.fault.Fault.{Fault}
use Rattle.personality.specs.declared.verdict.Question.{Question}
use Rattle.personality.specs.declared.verdict.Verdict.{Verdict}
use Rattle.personality.specs.declared.verdict.Verdict.TheVariants.{Nothing, Cleanup, Handler, Terminate, Broken}
use Rattle.numbers.proofs.Law.{then_parts}
use Rattle.numbers.specs.Reading.{then}
use Rattle.lsda.specs.Chain.{matching}
use Rattle.lsda.specs.Header.{header_at}
use Rattle.lsda.specs.Site.{find_site, wanted_of}
use Rattle.lsda.specs.Verdict.{table_bytes, unlisted, landed, judged_at, verdict_of, leaf_verdict}
use Rattle.lsda.specs.declared.header.Header.{Header}
use Rattle.lsda.specs.declared.leaf.Table.{Table}
use Rattle.lsda.specs.declared.site.Site.{Site}
use Rattle.lsda.specs.declared.site.Wanted.{Wanted}
use Rattle.table_laws.specs.Chains.{Found, HandlerLaw, CleanupLaw}
use Rattle.table_laws.proofs.Chains.{handler_landed, cleanup_landed}

-- a verdict that lands somewhere is no fault, and no verdict on a place without call site
abbrev Lands : Verdict → Type 0
Lands Nothing = ⊥
Lands (Cleanup pad) = Unit {0}
Lands (Handler pad selector) = Unit {0}
Lands Terminate = ⊥
Lands (Broken fault) = ⊥

said_ok : (r : Result Verdict Fault) (v : Verdict) → Lands v → verdict_of r ≡ v → r ≡ Ok v
said_ok (Ok w) v l e = ap (λ (x : Verdict). Ok x) e
said_ok (Err f) Nothing l e = absurd l
said_ok (Err f) (Cleanup pad) l e = absurd cc
said_ok (Err f) (Handler pad selector) l e = absurd cc
said_ok (Err f) Terminate l e = absurd l
said_ok (Err f) (Broken g) l e = absurd l

in_unit : (q : Question) (w v : Verdict) → Lands v → in_unit_0 q w ≡ v → w ≡ v
in_unit q w v l e = go (eqb q.unit 0) refl
  where
    broken_lands : (f : Fault) (u : Verdict) → Lands u → Broken f ≡ u → ⊥
    broken_lands f Nothing k d = k
    broken_lands f (Cleanup pad) k d = cc
    broken_lands f (Handler pad selector) k d = cc
    broken_lands f Terminate k d = k
    broken_lands f (Broken g) k d = k

    go : (b : Bool) → eqb q.unit 0 ≡ b → w ≡ v
    go true b = rw (b, in_unit_0) at e
    go false b = absurd (broken_lands _ v l (rw (b, in_unit_0) at e))

unlisted_stays : (b : Bool) (v : Verdict) → Lands v → unlisted b ≡ v → ⊥
unlisted_stays b Nothing l e = l
unlisted_stays true (Cleanup pad) l e = cc
unlisted_stays false (Cleanup pad) l e = cc
unlisted_stays true (Handler pad selector) l e = cc
unlisted_stays false (Handler pad selector) l e = cc
unlisted_stays b Terminate l e = l
unlisted_stays b (Broken f) l e = l

nothing_stays : (v : Verdict) → Lands v → Nothing ≡ v → ⊥
nothing_stays v l e = unlisted_stays true v l e

module _ {L : Type 0} (native : ℕ) (caught : ℕ → ℕ → Bool) (t : Table L) (image : List ℕ) (q : Question) where
  -- a verdict that lands is that of a call site
  record Landed (v : Verdict) : Type 0 where
    bs : List ℕ
    h : Header
    site : Site
    found : Found t image q bs h site
    verdict : landed bs t.start h (matching native caught q) q.forced site ≡ Ok v

  lands : (v : Verdict) → Lands v → leaf_verdict native caught t image q ≡ v → Landed v
  lands v l e =
      let j = said_ok (judged_at native caught t image q) v l (in_unit q (verdict_of (judged_at native caught t image q)) v l e) in
      let a = then_parts (table_bytes image t.start t.length) _ v j in
      let b = then_parts (header_at a.0 t.layout t.start t.function) _ v a.2 in
      seek a.0 b.0 a.1 b.1 (wanted_of t.layout q.place) refl b.2
    where
      after : (bs : List ℕ) (h : Header) (o : Option Site) → Result Verdict Fault
      after bs h o = elim o [ None ↦ Ok (unlisted q.forced) | Some site ↦ landed bs t.start h (matching native caught q) q.forced site ]

      seek : (bs : List ℕ) (h : Header) → table_bytes image t.start t.length ≡ Ok bs → header_at bs t.layout t.start t.function ≡ Ok h → (o : Option Wanted) → wanted_of t.layout q.place ≡ o → ◌≡◌ {A = Result Verdict Fault} (elim o [ None ↦ Ok Nothing | Some wanted ↦ then (find_site (take h.sites.end bs) h t.function wanted) (λ f. elim f [ None ↦ Ok (unlisted q.forced) | Some site ↦ landed bs t.start h (matching native caught q) q.forced site ]) ]) (Ok v) → Landed v
      seek bs h image_is header_is None w d = absurd (nothing_stays v l (cc))
      seek bs h image_is header_is (Some wanted) w d =
          let c = then_parts (find_site (take h.sites.end bs) h t.function wanted) _ v d in
          take_site c.0 c.1 c.2
        where
          take_site : (o : Option Site) → find_site (take h.sites.end bs) h t.function wanted ≡ Ok o → ◌≡◌ {A = Result Verdict Fault} (elim o [ None ↦ Ok (unlisted q.forced) | Some site ↦ landed bs t.start h (matching native caught q) q.forced site ]) (Ok v) → Landed v
          take_site None f g = absurd (unlisted_stays q.forced v l (cc))
          take_site (Some site) f g = record {
            bs = bs;
            h = h;
            site = site;
            found = record { wanted = wanted; bytes = image_is; header = header_is; asks = w; finds = f };
            verdict = g;
          }

  pub handler_law : (r : Verdict) → r ≡ leaf_verdict native caught t image q → HandlerLaw native caught t image q r
  handler_law r is pad selector e =
      let s = lands (Handler pad selector) tt (sym is ∙ e) in
      let p = handler_landed s.bs t.start s.h (matching native caught q) q.forced s.site pad selector s.verdict in
      record { bs = s.bs; h = s.h; site = s.site; found = s.found; pad_is = p.0; link = p.1 }

  pub cleanup_law : (r : Verdict) → r ≡ leaf_verdict native caught t image q → CleanupLaw native caught t image q r
  cleanup_law r is pad e =
      let s = lands (Cleanup pad) tt (sym is ∙ e) in
      let p = cleanup_landed s.bs t.start s.h (matching native caught q) q.forced s.site pad s.verdict in
      record { bs = s.bs; h = s.h; site = s.site; found = s.found; pad_is = p.0; action = p.1 }
