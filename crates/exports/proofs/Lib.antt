mod Laws
mod Records
