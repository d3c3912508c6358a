-- Lines in groups: the first line opens a group, each later one adds to it, and it is closed as a whole.
use Rattle.std.specs.Prelude.{List, [], ◌∷◌, Bool, true, false, if◌then◌else◌, Result, Ok}
use Rattle.acl_text.specs.declared.fault.TextFault.{TextFault}
use Rattle.acl_text.specs.Results.{◌>>=◌}

-- the pieces in turn, or the first fault
abbrev pub in_turn : {S P : Type 0} → (S → P → Result S TextFault) → S → List P → Result S TextFault
in_turn step state [] = Ok state
in_turn step state (p ∷ ps) = step state p >>= (λ more. in_turn step more ps)

-- a piece in front of others that are cut into groups
abbrev pub put_front : {P : Type 0} → Bool → P → List P × List (P × List P) → List P × List (P × List P)
put_front true p g = ([], (p, g.0) ∷ g.1)
put_front false p g = (p ∷ g.0, g.1)

-- what is before the first piece that begins a group, and the groups, each by its first piece and its others
abbrev pub grouped : {P : Type 0} → (P → Bool) → List P → List P × List (P × List P)
grouped begins [] = ([], [])
grouped begins (p ∷ ps) = put_front (begins p) p (grouped begins ps)

module _ {S D P : Type 0} (begins : P → Bool) (first : S → P → Result D TextFault) (line : D → P → Result D TextFault) (close : S → D → Result S TextFault) where
  -- a group: its first piece, then its others, then the group as a whole
  abbrev pub group_of : S → P × List P → Result S TextFault
  group_of state g = first state g.0 >>= (λ draft. in_turn line draft g.1 >>= (λ whole. close state whole))

  -- the pieces by groups, the first of which is open already
  abbrev pub by_groups : S → D → List P × List (P × List P) → Result S TextFault
  by_groups state draft g = in_turn line draft g.0 >>= (λ whole. close state whole >>= (λ more. in_turn group_of more g.1))

  -- one piece of a stream: a piece that begins a group closes the one before it
  abbrev pub stepped : S → D → P → Result (S × D) TextFault
  stepped state draft p =
      if begins p then close state draft >>= (λ more. first more p >>= (λ new. Ok (more, new)))
      else line draft p >>= (λ more. Ok (state, more))

  -- the same pieces read as a stream, whose last group is closed at the end
  abbrev pub streamed : S → D → List P → Result S TextFault
  streamed state draft [] = close state draft
  streamed state draft (p ∷ ps) = stepped state draft p >>= (λ s. streamed s.0 s.1 ps)
