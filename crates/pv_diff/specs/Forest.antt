-- Forests of slots that equations join.
use Rattle.std.specs.Prelude.{ℕ, ◌+◌, ◌<◌, ◌≤◌, ◌≡◌, List, [], ◌∷◌, ◌++◌, reverse, Option, Some, None, length, slice_index_or}
use Rattle.pv_diff.specs.declared.chains.End.{End}
use Rattle.pv_diff.specs.declared.forest.Link.{Link}
use Rattle.pv_diff.specs.declared.forest.Node.{Node}
use Rattle.pv_diff.specs.Chains.{HasEnd}

abbrev pub no_node : Node
no_node = record { slot = 0; root = 0; link = None }

abbrev pub link : ℕ → ℕ → Link
link p j = record { place = p; parent = j }

abbrev pub slot_at : List Node → ℕ → ℕ
slot_at nodes i = (slice_index_or nodes i no_node).slot

abbrev pub root_at : List Node → ℕ → ℕ
root_at nodes i = (slice_index_or nodes i no_node).root

abbrev pub link_at : List Node → ℕ → Option Link
link_at nodes i = (slice_index_or nodes i no_node).link

-- the node of slot k, if it has one
abbrev pub seen_at : List (Option ℕ) → ℕ → Option ℕ
seen_at seen k = slice_index_or seen k None

-- slot k has a node
abbrev pub IsSeen : List (Option ℕ) → ℕ → Type 0
IsSeen seen k = (i : ℕ) × (seen_at seen k ≡ Some i)

-- how many slots have no node
abbrev pub unseen : List (Option ℕ) → ℕ
unseen [] = 0
unseen (None ∷ seen) = 1 + unseen seen
unseen (Some i ∷ seen) = unseen seen

-- each end leads to one of n slots, and each equation has an end on both sides
pub record IsTwoWay (n : ℕ) (ends : List End) (first : List (Option ℕ)) : Type 0 where
  pub below : (k z p : ℕ) → HasEnd ends first k z p → z < n
  pub back : (k z p : ℕ) → HasEnd ends first k z p → HasEnd ends first z k p

-- a node without a link is the root of its tree, and one with a link hangs on an earlier node of its tree
pub record AreTrees (nodes : List Node) : Type 0 where
  pub starts : (i : ℕ) → i < length nodes → link_at nodes i ≡ None → root_at nodes i ≡ i
  pub falls : (i p j : ℕ) → link_at nodes i ≡ Some (link p j) → j < i
  pub stays : (i p j : ℕ) → link_at nodes i ≡ Some (link p j) → root_at nodes j ≡ root_at nodes i
  pub rooted : (i : ℕ) → root_at nodes i ≤ i

-- the nodes are those that the slots have; a link is an equation that joins the slots of its nodes; slot 0 comes first
pub record IsForest (ends : List End) (first : List (Option ℕ)) (nodes : List Node) (seen : List (Option ℕ)) : Type 0 where
  pub trees : AreTrees nodes
  pub joined : (i p j : ℕ) → link_at nodes i ≡ Some (link p j) → HasEnd ends first (slot_at nodes j) (slot_at nodes i) p
  pub inside : (k i : ℕ) → seen_at seen k ≡ Some i → i < length nodes
  pub named : (k i : ℕ) → seen_at seen k ≡ Some i → slot_at nodes i ≡ k
  pub found : (i : ℕ) → i < length nodes → seen_at seen (slot_at nodes i) ≡ Some i
  pub front : slot_at nodes 0 ≡ 0
  pub total : length nodes + unseen seen ≡ length seen

-- slot k has a node, in the tree that starts at node r
pub record HasRoot (nodes : List Node) (seen : List (Option ℕ)) (k r : ℕ) : Type 0 where
  pub node : ℕ
  pub seen_there : seen_at seen k ≡ Some node
  pub root_there : root_at nodes node ≡ r

-- what is joined to the slots of the nodes before n is in their trees
abbrev pub AreClosed : List End → List (Option ℕ) → List Node → List (Option ℕ) → ℕ → Type 0
AreClosed ends first nodes seen n = (i : ℕ) → i < n → (z p : ℕ) → HasEnd ends first (slot_at nodes i) z p
    → HasRoot nodes seen z (root_at nodes i)

-- a forest whose last tree, the one from the node `root` on, is closed up to the node `at`, as are the trees before it
pub record IsGrowing (ends : List End) (first : List (Option ℕ)) (nodes : List Node) (seen : List (Option ℕ))
    (at root : ℕ) : Type 0 where
  pub forest : IsForest ends first nodes seen
  pub closed : AreClosed ends first nodes seen at
  pub begun : root ≤ at
  pub level : (j : ℕ) → root ≤ j → j < length nodes → root_at nodes j ≡ root

-- a forest in which whatever is joined is in one tree
pub record IsWhole (ends : List End) (first : List (Option ℕ)) (nodes : List Node) (seen : List (Option ℕ)) : Type 0 where
  pub forest : IsForest ends first nodes seen
  pub closed : AreClosed ends first nodes seen (length nodes)

-- nodes only came to those that were there
pub record Keeps (old : List Node) (was : List (Option ℕ)) (new : List Node) (seen : List (Option ℕ)) : Type 0 where
  pub longer : length old ≤ length new
  pub nodes : (i : ℕ) → i < length old → slice_index_or new i no_node ≡ slice_index_or old i no_node
  pub slots : (k i : ℕ) → seen_at was k ≡ Some i → seen_at seen k ≡ Some i
  pub size : length seen ≡ length was

-- the links at these places lead from node i to node j
abbrev pub Ascent : List Node → ℕ → ℕ → List ℕ → Type 0
Ascent nodes i j [] = i ≡ j
Ascent nodes i j (p ∷ ps) = (k : ℕ) × (link_at nodes i ≡ Some (link p k)) × Ascent nodes k j ps

-- the places lead from node i up to a node, and from there down to node j
pub record IsPath (nodes : List Node) (i j : ℕ) (places : List ℕ) : Type 0 where
  pub top : ℕ
  pub up : List ℕ
  pub down : List ℕ
  pub first : Ascent nodes i top up
  pub second : Ascent nodes j top down
  pub whole : places ≡ up ++ reverse down
