-- The routes of one family, page by page.
use Rattle.std.specs.Prelude.{ℕ, zero, suc, List, [], ◌∷◌, length, take}
use Rattle.ipnet_blocks.specs.Blocks.{Block}
use Rattle.route_laws.specs.Onwards.{routes_from, routes_after}
use Rattle.route_laws.specs.Tables.{Route}

-- the last route of a page
abbrev pub last_of : Route → List Route → Route
last_of r [] = r
last_of r (s ∷ rs) = last_of s rs

-- A page and those after it, up to the first page without routes, and at most `most` pages. Each page has the routes that come after the
-- last route of the page before.
abbrev pub pages_up_to : ℕ → List Route → ℕ → List Route → List (List Route)
pages_up_to most M limit [] = []
pages_up_to zero M limit (r ∷ rs) = []
pages_up_to (suc most) M limit (r ∷ rs) = (r ∷ rs) ∷ pages_up_to most M limit (take limit (routes_after M (last_of r rs).block))

-- the first page has the routes from n on, at most `limit` of them
abbrev pub first_page : List Route → Block → ℕ → List Route
first_page M n limit = take limit (routes_from M n)

-- the first page, and all later pages with routes
abbrev pub pages : List Route → Block → ℕ → List (List Route)
pages M n limit = pages_up_to (length M) M limit (first_page M n limit)
