-- A model read in three parts, each with its header and its cells of the tables.
use Rattle.std.specs.Prelude.{◌+◌, ◌≤◌, ◌≡◌, Result, Ok}
use Rattle.machine.specs.All.{ℕ, List, length, set, replicate, sets, Parsed, parsed, refused, Parser, continue, field, times, Sum, Block, in_force, Counts, value_fields, block_field}
use Rattle.machine.specs.Limits as Limits
use Rattle.constants.specs.{declared.model.Model.Model, declared.refusals.Refusal.Refusal}
use Rattle.layout.specs.Layout as Layout
use Rattle.layout.specs.All.{sum_numbers, block_numbers}
use Rattle.parse_values.specs.{declared.Place.Place, Keeps.Refuses, Keeps.place_of, Keeps.number_shape, Filled.stored_rows, Filled.all_named, Filled.Each, Shapes.sum_named, Shapes.ProperValue}
use Rattle.program.specs.Formed.{Formed}

-- the tables of a model of which its edition is known
unfoldable pub empty_tables : (edition : ℕ) → List ℕ
empty_tables edition = set (replicate Layout.tables_size 0) Layout.edition edition

abbrev pub Capacity : ℕ → Type 0
Capacity v = (1 ≤ v) × (v ≤ Limits.max_capacity)

-- the header and the place where reading begins
abbrev pub no_model : Model
no_model = record { facilities = 0; storages = 0; queues = 0; values = 0; lists = 0; counter = 0; blocks = 0 }

abbrev pub no_place : Place
no_place = record { position = 0; numbers = 0; mentions = 0; named = 0 }

-- ---- A part of the model

-- what reading it gives: the header so far, and where reading stands
abbrev pub Header : Type 0
Header = Result (Model × Place) Refusal

-- the header with it, the largest block that it names besides those before, its cells, and what is known of it
pub record StageShape (A : Type 0) : Type 1 where
  pub header : Model → A → Model
  pub named : ℕ → A → ℕ
  pub cells : Model → A → List ℕ → List ℕ
  pub fact : Model → A → Type 0

abbrev pub HeldStage : {A : Type 0} → StageShape A → Model → Place → (cells after : List ℕ) → Header → Parsed A → Type 0
HeldStage sh m p cells after r (parsed a c) =
    (r ≡ Ok (sh.header m a, place_of c (sh.named p.named a))) × (after ≡ sh.cells m a cells) × sh.fact m a
HeldStage sh m p cells after r (refused n) = Refuses r n

pub record Stage {A : Type 0} (sh : StageShape A) (m : Model) (p : Place) (cells after : List ℕ) (r : Header) (P : Parsed A) : Type 0 where
  pub held : HeldStage sh m p cells after r P

-- ---- "edition (1); facilities 0..32; storages 0..32 and each capacity 1..65,535"

pub record Servers : Type 0 where
  pub edition : ℕ
  pub facilities : ℕ
  pub storages : ℕ
  pub capacities : List ℕ

unfoldable pub servers_field : List ℕ → Parser Servers
servers_field s = λ c.
    continue (field s 3 1 in_force.editions c)
    (λ edition c₁.
    continue (field s 3 0 Limits.max_facilities c₁)
    (λ f c₂.
    continue (field s 3 0 Limits.max_storages c₂)
    (λ n c₃. continue (times n (field s 3 1 Limits.max_capacity) c₃)
    (λ l c₄. parsed (record { edition = edition; facilities = f; storages = n; capacities = l }) c₄))))

abbrev pub with_servers : Model → Servers → Model
with_servers m a =
    record {
      facilities = a.facilities;
      storages = a.storages;
      queues = m.queues;
      values = m.values;
      lists = m.lists;
      counter = m.counter;
      blocks = m.blocks;
    }

pub record ProperServers (a : Servers) : Type 0 where
  pub facilities : a.facilities ≤ Limits.max_facilities
  pub storages : a.storages ≤ Limits.max_storages
  pub count : length a.capacities ≡ a.storages
  pub each : Each Capacity a.capacities

-- the cells before are forgotten
abbrev pub servers_cells : Servers → List ℕ
servers_cells a =
    stored_rows (number_shape 1 Limits.max_capacity 1).numbers 1 (Layout.capacities + a.facilities) a.capacities
    (sets (empty_tables a.edition) Layout.capacities (replicate a.facilities 1))

abbrev pub servers_shape : StageShape Servers
servers_shape =
    record { header = with_servers; named = λ n a. n; cells = λ m a cells. servers_cells a; fact = λ m a. ProperServers a }

-- ---- "queues 0..32; values 0..8 and their sums"

pub record Things : Type 0 where
  pub queues : ℕ
  pub values : ℕ
  pub sums : List Sum

abbrev pub seen_by_values : Model → ℕ → Counts
seen_by_values m queues =
    record { facilities = m.facilities; storages = m.storages; queues = queues; values = 0; lists = 0; blocks = 0 }

unfoldable pub things_field : List ℕ → Model → Parser Things
things_field s m = λ c.
    continue (field s 3 0 Limits.max_queues c)
    (λ q c₁.
    continue (field s 3 0 Limits.max_values c₁)
    (λ n c₂.
    continue (value_fields s (seen_by_values m q) n 0 c₂) (λ l c₃. parsed (record { queues = q; values = n; sums = l }) c₃)))

abbrev pub with_things : Model → Things → Model
with_things m a =
    record {
      facilities = m.facilities;
      storages = m.storages;
      queues = a.queues;
      values = a.values;
      lists = m.lists;
      counter = m.counter;
      blocks = m.blocks;
    }

pub record ProperThings (a : Things) : Type 0 where
  pub queues : a.queues ≤ Limits.max_queues
  pub values : a.values ≤ Limits.max_values
  pub count : length a.sums ≡ a.values
  pub each : Each ProperValue a.sums

abbrev pub things_shape : StageShape Things
things_shape =
    record {
      header = with_things;
      named = λ n a. all_named sum_named n a.sums;
      cells = λ m a cells. stored_rows sum_numbers Layout.value_width Layout.values a.sums cells;
      fact = λ m a. ProperThings a;
    }

-- ---- "lists 0..16; counter 1..65,535; blocks 1..256 and each block"

pub record Program : Type 0 where
  pub lists : ℕ
  pub counter : ℕ
  pub count : ℕ
  pub blocks : List Block

abbrev pub seen_by_blocks : Model → (lists blocks : ℕ) → Counts
seen_by_blocks m lists blocks =
    record {
      facilities = m.facilities;
      storages = m.storages;
      queues = m.queues;
      values = m.values;
      lists = lists;
      blocks = blocks;
    }

unfoldable pub program_field : List ℕ → Model → (capacities : List ℕ) → Parser Program
program_field s m capacities = λ c.
    continue (field s 3 0 Limits.max_lists c)
    (λ lists c₁.
    continue (field s 3 1 Limits.max_counter c₁)
    (λ counter c₂.
    continue (field s 3 1 Limits.max_blocks c₂)
    (λ n c₃.
    continue (times n (block_field s in_force.kinds (seen_by_blocks m lists n) capacities) c₃)
    (λ l c₄. parsed (record { lists = lists; counter = counter; count = n; blocks = l }) c₄))))

abbrev pub with_program : Model → Program → Model
with_program m a =
    record {
      facilities = m.facilities;
      storages = m.storages;
      queues = m.queues;
      values = m.values;
      lists = a.lists;
      counter = a.counter;
      blocks = a.count;
    }

pub record ProperProgram (a : Program) : Type 0 where
  pub lists : a.lists ≤ Limits.max_lists
  pub most : a.count ≤ Limits.max_blocks
  pub count : length a.blocks ≡ a.count
  pub each : Each (Formed a.count) a.blocks

abbrev pub program_shape : StageShape Program
program_shape =
    record {
      header = with_program;
      named = λ n a. n;
      cells = λ m a cells. stored_rows block_numbers Layout.block_width 0 a.blocks cells;
      fact = λ m a. ProperProgram a;
    }
