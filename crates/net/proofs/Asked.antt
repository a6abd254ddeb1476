-- The questions on a net's links, asked one after another.
use Rattle.std.proofs.Common.{◌≡◌, ℕ, ◌+◌, ◌<◌, length, Some, None, inl, inr, arith}
use native.Mathlib.Decide.{dec_le}
use borrow.Author.Count.{below_more}
use Rattle.faults.specs.declared.NetFault.{NetFault}
use Rattle.faults.specs.declared.NetFault.TheVariants.{EndOutside, EndsEqual}
use Rattle.net.specs.Nets.{Net, ends_of}
use Rattle.net.specs.Limits.{FewBars, FewLinks, EndsAreBars, EndsDiffer, WithinLimits, PassBelow, FirstNo, FirstLinkNo}
use Rattle.net.proofs.Numbered.{nth_past}

module _ (net : Net) where
  -- a link that is not there has no ends
  no_link : (l a b : ℕ) → length net.links < l → ends_of net l ≡ Some (a, b) → ⊥
  no_link l a b h e = let p = nth_past net.links l None h in let z : ◌≡◌ {A = ℕ} 0 1 = cc in omega arith

  pub one_more : (l : ℕ) → PassBelow net l → EndsAreBars net l × EndsDiffer net l → PassBelow net (l + 1)
  one_more l = below_more (λ k. EndsAreBars net k × EndsDiffer net k) l

  pub all_asked : (l : ℕ) → FewBars net → FewLinks net → length net.links < l → PassBelow net l → WithinLimits net
  all_asked l bars links end below = record {
    few_bars = bars;
    few_links = links;
    ends_are_bars = λ k. (passed k).0;
    ends_differ = λ k. (passed k).1;
  }
    where
      passed : (k : ℕ) → EndsAreBars net k × EndsDiffer net k
      passed k = elim (dec_le l k) [
        | yes h ↦ ((λ a b e. absurd (no_link k a b (omega arith) e)), (λ a b e. absurd (no_link k a b (omega arith) e)))
        | no h ↦ below k (omega arith)
      ]

  pub first_no : (l : ℕ) (f : NetFault) → FewBars net → FewLinks net → PassBelow net l → FirstLinkNo net l f → FirstNo net f
  first_no l f bars links below (inl (e, out)) = rw e (bars, links, below, out)
  first_no l f bars links below (inr (e, ins, same)) = rw e (bars, links, below, ins, same)

-- a net with a first no is not within the limits
pub no_outside : (net : Net) (f : NetFault) → FirstNo net f → ¬ WithinLimits net
no_outside net NetFault.OddRow h w = h
no_outside net NetFault.BarCount h w = h w.few_bars
no_outside net NetFault.LinkCount h w = h.1 w.few_links
no_outside net (EndOutside l) h w = h.3 (w.ends_are_bars l)
no_outside net (EndsEqual l) h w = h.4 (w.ends_differ l)
