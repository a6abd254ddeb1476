-- The limits of a net, and the first of their questions that is answered no. Assumes nothing.
use Rattle.std.specs.Prelude.{◌≡◌, ℕ, ◌<◌, ◌≤◌, ◌≢◌, ◌⊎◌, length, Some}
use Rattle.faults.specs.declared.NetFault.{NetFault}
use Rattle.faults.specs.declared.NetFault.TheVariants.{BarCount, LinkCount, EndOutside, EndsEqual}
use Rattle.net.specs.Nets.{Net, ends_of, IsBar}

-- The bars are 1 to 32.
abbrev pub FewBars : Net → Type 0
FewBars net = (1 ≤ net.bars) × (net.bars ≤ 32)

-- The links are at most 60.
abbrev pub FewLinks : Net → Type 0
FewLinks net = length net.links ≤ 60

-- Link l is out of service, or both its ends are bars.
abbrev pub EndsAreBars : Net → ℕ → Type 0
EndsAreBars net l = (a b : ℕ) → ends_of net l ≡ Some (a, b) → IsBar net a × IsBar net b

-- Link l is out of service, or its ends differ.
abbrev pub EndsDiffer : Net → ℕ → Type 0
EndsDiffer net l = (a b : ℕ) → ends_of net l ≡ Some (a, b) → a ≢ b

-- A net within the limits.
pub record WithinLimits (net : Net) : Type 0 where
  pub few_bars : FewBars net
  pub few_links : FewLinks net
  pub ends_are_bars : (l : ℕ) → EndsAreBars net l
  pub ends_differ : (l : ℕ) → EndsDiffer net l

-- Each link below l passes the two questions that are asked of a link.
abbrev pub PassBelow : Net → ℕ → Type 0
PassBelow net l = (k : ℕ) → k < l → EndsAreBars net k × EndsDiffer net k

-- The questions are asked in order, of the links in ascending number, and f is the first no.
abbrev pub FirstNo : Net → NetFault → Type 0
FirstNo net NetFault.OddRow = ⊥
FirstNo net BarCount = ¬ FewBars net
FirstNo net LinkCount = FewBars net × (¬ FewLinks net)
FirstNo net (EndOutside l) = FewBars net × FewLinks net × PassBelow net l × (¬ EndsAreBars net l)
FirstNo net (EndsEqual l) = FewBars net × FewLinks net × PassBelow net l × EndsAreBars net l × (¬ EndsDiffer net l)

-- The same of the two questions that are asked of link l.
abbrev pub FirstLinkNo : Net → ℕ → NetFault → Type 0
FirstLinkNo net l f = ((f ≡ EndOutside l) × (¬ EndsAreBars net l)) ⊎ ((f ≡ EndsEqual l) × EndsAreBars net l × (¬ EndsDiffer net l))
