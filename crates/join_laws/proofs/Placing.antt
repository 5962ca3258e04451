-- Where the numbers of a part stand among those of the joined model: its counts and the joined ones.
use Rattle.machine.specs.All.{ℕ, ◌+◌, ◌≤◌, arith, ◌≡◌, le-leb, lt-leb, Counts}
use Rattle.machine.specs.Limits as Limits
use Rattle.joined.specs.Join.{Part, server_in}
use Rattle.join_laws.specs.{own_number}

-- how far its storages are moved on among the storages is `among`
pub record Placing (p : Part) (n joint : Counts) : Type 0 where
  pub among : ℕ
  pub own : p.facilities ≡ n.facilities
  pub facilities : n.facilities + p.to_facility ≤ joint.facilities
  pub storages : n.storages + among ≤ joint.storages
  pub servers : joint.facilities + among ≡ n.facilities + p.to_storage
  pub queues : n.queues + p.to_queue ≤ joint.queues
  pub values : n.values + p.to_value ≤ joint.values
  pub most-facilities : joint.facilities ≤ Limits.max_facilities
  pub most-storages : joint.storages ≤ Limits.max_storages
  pub most-queues : joint.queues ≤ Limits.max_queues
  pub most_values : joint.values ≤ Limits.max_values
  pub most-blocks : joint.blocks ≤ Limits.max_blocks

module _ (p : Part) (n joint : Counts) (at : Placing p n joint) where
  pub facility_in : (f : ℕ) → f ≤ n.facilities → server_in p f ≡ f + p.to_facility
  unfolding server_in
  facility_in f h = rw (le-leb f p.facilities (omega (arith, at.own)))

  -- a storage is numbered behind the facilities of both parts
  pub storage_in : (k : ℕ) → 1 ≤ k → server_in p (n.facilities + k) ≡ joint.facilities + (k + at.among)
  unfolding server_in
  storage_in k h = rw (lt-leb (n.facilities + k) p.facilities (omega (arith, at.own))) (omega (arith, at.servers))

  -- in a term a server's number is stored apart from its sort
  pub own-facility : (v : ℕ) → v ≤ joint.facilities → own_number joint.facilities v ≡ v
  unfolding own_number
  own-facility v h = rw (le-leb v joint.facilities h)

  pub own-storage : (k : ℕ) → 1 ≤ k → own_number joint.facilities (joint.facilities + k) ≡ k
  unfolding own_number
  own-storage k h = rw (lt-leb (joint.facilities + k) joint.facilities (omega arith)) (omega arith)
